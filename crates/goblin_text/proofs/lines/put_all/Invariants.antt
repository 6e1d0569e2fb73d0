use Rattle.goblin_text.proofs.Common.{◌≡◌, drop, map, concat}
use Rattle.goblin_text.proofs.TargetLemmas.{PutSoFar}
use Rattle.goblin_text.proofs.lines.put_all.Given as goal

-- the texts so far were put
abbrev pub invariant-loop-text : goal.invariant-loop-text
invariant-loop-text g l =
    let target = g.T.Target in
    record {
      put : PutSoFar (target.state l.initial.target) (target.state l.target) (concat (map (λ text. text.now) l.texts))
          (concat (map (λ text. text.now) (drop l.text-index l.texts)));
      same_writer : target.writer_name l.target ≡ target.writer_name l.initial.target;
    }
