-- After each part the buffer holds the text of the parts so far, or as much of it as fits, and `len` is the length of
-- that text (`laid_parts`): with one part more the text goes on with that part's (`parts_text_more`). The length is
-- bounded because there are at most 16 parts, each of at most 100 bytes (`short_parts`).
use Rattle.goblin_base.proofs.PartsLemmas.{parts_text_more}
use Rattle.goblin_base.specs.declared.texts.Part.{Part}
use Rattle.goblin_c.proofs.BufferLemmas.{laid_parts, short_parts}
use Rattle.goblin_c.proofs.Common.{arith, facts_of}
use Rattle.std.proofs.Common.{append_assoc}
use Rattle.goblin_c.proofs.texts.write_parts.Goals as goal

pub write_part-len-requires-clause-part : goal.write_part-len-requires-clause-part
write_part-len-requires-clause-part c =
    (short_parts c.parts-parts.result.now c.parts-parts.ensures.bound).1 c.loop-part.part-index _ c.loop-part-test.true

pub returns-clause-bound : goal.returns-clause-bound
returns-clause-bound c = omega (arith, (short_parts c.parts-parts.result.now c.parts-parts.ensures.bound).0)

pub loop-part-preserved : goal.loop-part-preserved
loop-part-preserved c =
    let facts = facts_of c.args.report.now in
    let parts = c.parts-parts.result.now in
    let more = λ (d : Part). parts_text_more facts parts c.loop-part.part-index d c.loop-part-test.true in
    grind (arith, append_assoc, laid_parts, more)
