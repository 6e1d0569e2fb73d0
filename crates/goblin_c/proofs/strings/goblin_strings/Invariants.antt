use Rattle.goblin_c.proofs.Common.{Ok, Some, drop, length, map, string_expected, take, ◌≡◌}
use Rattle.goblin_c.proofs.strings.goblin_strings.Given as goal

abbrev pub invariant-loop-i : goal.invariant-loop-i
invariant-loop-i l =
    let results = map (string_expected l.file.bytes.now l.strings) (take (length l.initial.ranges) l.offsets) in
    record {
      are : map (λ x. Ok (Some x)) (take l.i l.ranges) ≡ take l.i results;
      rest : drop l.i l.ranges ≡ drop l.i l.initial.ranges;
    }
