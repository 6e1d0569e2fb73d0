use Rattle.goblin_base.specs.LayoutLaws.{image-low}
use Rattle.goblin_records.specs.Sym.{as32, as64}
use Rattle.goblin_records.specs.SymLaws.{sym32_laws, sym64_laws}
use Rattle.goblin_records.proofs.sym.SymLaidOutCtx.put.Goals as goal

pub returns-in-Little : goal.returns-in-Little
returns-in-Little c =
    rw c.in-Little.is (rw (c.from.ensures, image-low (sym32_laws c.args.ctx.le) (as32 c.args.self)) at c.put.ensures)

pub returns-in-Big : goal.returns-in-Big
returns-in-Big c =
    rw c.in-Big.is
    (rw (c.from-in-Big.ensures, image-low (sym64_laws c.args.ctx.le) (as64 c.args.self)) at c.put-in-Big.ensures)
