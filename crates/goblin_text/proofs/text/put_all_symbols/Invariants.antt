use Rattle.goblin_text.proofs.Common.{◌≡◌, drop, symbols_text}
use Rattle.goblin_text.proofs.TargetLemmas.{PutSoFar}
use Rattle.goblin_text.proofs.LineLooks.{ReadSoFar}
use Rattle.goblin_text.proofs.text.put_all_symbols.Given as goal

-- the lines so far were put, and took no more looks than they may
abbrev pub invariant-loop-part : goal.invariant-loop-part
invariant-loop-part g l =
    let target = g.T.Target in
    let old = l.initial.names in
    let all = symbols_text old.bytes l.parts in
    let rest = symbols_text old.bytes (drop l.part-index l.parts) in
    record {
      reading : ReadSoFar old l.names all rest;
      put : PutSoFar (target.state l.initial.target) (target.state l.target) all rest;
      same_writer : target.writer_name l.target ≡ target.writer_name l.initial.target;
    }
