use Rattle.goblin_text.proofs.Common.{◌≡◌, ◌+◌, ◌<◌, length, reloc_lines}
use Prim.Native.Nat.{◌^◌}
use Rattle.goblin_text.proofs.TargetLemmas.{PutSoFar}
use Rattle.goblin_text.proofs.text.put_relocs.Given as goal

-- the lines so far were put
abbrev pub invariant-loop-number : goal.invariant-loop-number
invariant-loop-number g l =
    let target = g.T.Target in
    record {
      count : l.number + length l.reloc-iterator < 2 ^ 64;
      put : PutSoFar (target.state l.initial.target) (target.state l.target) (reloc_lines l.section 0 l.relocs)
          (reloc_lines l.section l.number l.reloc-iterator);
      same_writer : target.writer_name l.target ≡ target.writer_name l.initial.target;
    }
