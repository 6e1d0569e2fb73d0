use Rattle.goblin_base.specs.FieldLaws.{puts_fields}
use Rattle.goblin_headers.proofs.section_header64.SectionHeaderLaidOutEndian.put.Goals as goal

pub returns : goal.returns
returns c = puts_fields _ _ _ _ c.requires (cc)
