use Rattle.goblin_base.proofs.Common.{rules, sym, IsOk, facts_of}
use Rattle.std.proofs.Output.{has_written_append, has_written_of_eq}
use Rattle.goblin_base.proofs.PartsLemmas.{parts_text_more}
use Rattle.goblin_base.proofs.texts.Report.write_parts.Goals as goal

pub loop-part-preserved : goal.loop-part-preserved
loop-part-preserved g c p =
    let before = c.loop-part.invariant p in
    let ok : IsOk c.write_part.result = search rules in
    has_written_of_eq _ _ _ _ _
    (sym (parts_text_more
    (facts_of c.args.self.now) c.parts-parts.result.now c.loop-part.part-index _ c.loop-part-test.true))
    (has_written_append _ _ _ _ _ _ before (c.write_part.ensures before.plain ok))
