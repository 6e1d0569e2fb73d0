use Rattle.goblin_text.proofs.Common.{◌≡◌, drop, relocs_text}
use Rattle.goblin_text.proofs.TargetLemmas.{PutSoFar}
use Rattle.goblin_text.proofs.text.put_all_relocs.Given as goal

-- the lines so far were put
abbrev pub invariant-loop-part : goal.invariant-loop-part
invariant-loop-part g l =
    let target = g.T.Target in
    record {
      put : PutSoFar (target.state l.initial.target) (target.state l.target) (relocs_text l.parts)
          (relocs_text (drop l.part-index l.parts));
      same_writer : target.writer_name l.target ≡ target.writer_name l.initial.target;
    }
