use Rattle.goblin_text.proofs.Common.{◌≡◌, drop, strings_in, section_lines}
use Rattle.goblin_text.proofs.TargetLemmas.{PutSoFar}
use Rattle.goblin_text.proofs.LineLooks.{ReadSoFar}
use Rattle.goblin_text.proofs.text.put_sections.Given as goal

-- the lines so far were put, and took no more looks than they may
abbrev pub invariant-loop-number : goal.invariant-loop-number
invariant-loop-number g l =
    let target = g.T.Target in
    let old = l.initial.names in
    let strings = strings_in old.bytes l.file.parts.strings in
    let all = section_lines strings 0 l.file.sections.items in
    let rest = section_lines strings l.number (drop l.number l.file.sections.items) in
    record {
      reading : ReadSoFar old l.names all rest;
      put : PutSoFar (target.state l.initial.target) (target.state l.target) all rest;
      same_writer : target.writer_name l.target ≡ target.writer_name l.initial.target;
    }
