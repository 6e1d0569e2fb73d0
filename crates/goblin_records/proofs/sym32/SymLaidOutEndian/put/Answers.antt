use Rattle.goblin_base.specs.FieldLaws.{puts_fields}
use Rattle.goblin_records.proofs.sym32.SymLaidOutEndian.put.Goals as goal

pub returns : goal.returns
returns c = puts_fields _ _ _ _ c.requires (cc (c.put_u8.ensures c.args.order, c.put_u8-2.ensures c.args.order))
