use Rattle.goblin_base.specs.Common.{low_bits}
use Rattle.goblin_base.specs.FieldLaws.{puts_fields}
use Rattle.goblin_base.specs.LayoutLaws.{image-low}
use Rattle.goblin_base.specs.declared.container.Container.TheVariants.{Little}
use Rattle.goblin_dynamic.specs.Dyn.{entry, entry_laws}
use Rattle.goblin_dynamic.proofs.entry.DynLaidOutCtx.put.Goals as goal

pub returns-in-Little : goal.returns-in-Little
returns-in-Little c =
    let low = (entry 4).fields (low_bits (entry 4) c.args.self) in
    rw (c.in-Little.is, ← image-low (entry_laws Little c.args.ctx.le) c.args.self)
    (puts_fields c.args.ctx.le low c.args.bytes.now _ (rw c.in-Little.is at c.requires) (cc))

pub returns-in-Big : goal.returns-in-Big
returns-in-Big c = rw c.in-Big.is (puts_fields _ _ _ _ (rw c.in-Big.is at c.requires) (cc))
