use Rattle.goblin_c.proofs.Common.{length, ◌+◌, ◌-◌, ◌≡◌}
use Rattle.goblin_c.specs.BuildId.{first_build_id, whole_notes}
use Rattle.goblin_c.proofs.build_id.seek.Given as goal

abbrev pub invariant-loop-read : goal.invariant-loop-read
invariant-loop-read l =
    let bytes = l.file.bytes.now in
    let all = whole_notes l.most bytes l.file.header l.range l.alignment l.range.offset in
    let rest = whole_notes (l.most - l.read) bytes l.file.header l.range l.alignment l.offset in
    (first_build_id bytes all ≡ first_build_id bytes rest) × (length all ≡ l.read + length rest)
