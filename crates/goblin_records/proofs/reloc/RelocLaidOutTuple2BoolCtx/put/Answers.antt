use Rattle.goblin_base.specs.LayoutLaws.{image-low}
use Rattle.goblin_records.specs.Reloc.{rel_as32, rela_as32}
use Rattle.goblin_records.specs.RelocLaws.{rel32_laws, rela32_laws}
use Rattle.goblin_records.proofs.reloc.RelocLaidOutTuple2BoolCtx.put.Goals as goal

pub returns-in-Little-true : goal.returns-in-Little-true
returns-in-Little-true c =
    let put = rw (c.from.ensures, image-low (rela32_laws c.args.ctx.1.le) (rela_as32 c.args.self)) at c.put.ensures in
    rw (c.in-Little-true.is-0, c.in-Little-true.is-1) put

pub returns-in-Little-false : goal.returns-in-Little-false
returns-in-Little-false c =
    let put = rw (c.from-in-Little-false.ensures, image-low (rel32_laws c.args.ctx.1.le) (rel_as32 c.args.self)) at
    c.put-in-Little-false.ensures in
    rw (c.in-Little-false.is-0, c.in-Little-false.is-1) put
