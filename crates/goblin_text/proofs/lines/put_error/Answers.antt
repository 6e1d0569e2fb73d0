-- The text goes on with that of one part more (`parts_text_more`).
use Rattle.goblin_text.proofs.Common.{◌∙◌, arith, subst, sym, common_steps, Appends, Appends-trans, parts_text_more}
use Rattle.goblin_base.specs.Texts.{facts_of}
use Rattle.goblin_text.proofs.lines.put_error.Goals as goal

pub loop-part-preserved : goal.loop-part-preserved
loop-part-preserved g c =
    let l = c.loop-part in
    let facts = facts_of c.report-report.result in
    let more = sym (parts_text_more facts c.parts-parts.result.now l.part-index _ c.loop-part-test.true) in
    record {
      appends = subst (Appends _ _) more (Appends-trans _ _ _ _ _ l.invariant.appends c.in_ok-put_part.ensures.put.0);
      heeded = grind (arith, common_steps);
      stopped = λ known. c.in_ok-put_part.ensures.put.2 (l.invariant.heeded ∙ known) ∙ l.invariant.stopped known;
      same_writer = grind (arith, common_steps);
    }
