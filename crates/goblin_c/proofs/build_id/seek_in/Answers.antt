-- The notes of each header end the search, or it goes on with those of the next one (`at_notes`, `at_holder`).
use Rattle.goblin_c.proofs.BuildIdLemmas.{at_holder, at_notes}
use Rattle.goblin_c.proofs.Common.{None, Some, ap, arith, ◌∙◌}
use Rattle.goblin_c.proofs.build_id.seek_in.Goals.{in-Some+else-is_some, in_default}
use Rattle.goblin_c.specs.BuildId.{holders_in}
use Rattle.goblin_c.proofs.build_id.seek_in.Goals as goal

pub returns-then-is_some : goal.returns-then-is_some
returns-then-is_some c =
    let l = c.loop-i in
    let file = c.args.file.now in
    let at = at_notes file.bytes.now file.header 65536 l.left (holders_in c.args.all.now) l.i l.invariant.within in
    let there = c.get.ensures ∙ ap Some c.in-Some.is in
    grind (arith, at c.in-Some.range c.in-Some.alignment there c.seek-found.result c.seek-found.ensures)

pub loop-i-preserved : goal.loop-i-preserved
loop-i-preserved c =
    let l = c.loop-i in
    let file = c.args.file.now in
    let at = at_notes file.bytes.now file.header 65536 l.left (holders_in c.args.all.now) l.i l.invariant.within in
    elim c.match-get.branch [
      | in-Some+else-is_some w ↦
          let there = c.get.ensures ∙ ap Some w.in-Some.is in
          grind (arith, at w.in-Some.range w.in-Some.alignment there w.seek-found.result w.seek-found.ensures)
      | in_default w ↦ grind (arith, at_holder (holders_in c.args.all.now) l.i None)
    ]
