use Rattle.goblin_base.specs.LayoutLaws.{image-low}
use Rattle.goblin_headers.specs.SectionHeader.{as32, as64}
use Rattle.goblin_headers.specs.SectionHeaderLaws.{section_header32_laws, section_header64_laws}
use Rattle.goblin_headers.proofs.section_header.SectionHeaderLaidOutCtx.put.Goals as goal

pub returns-in-Little : goal.returns-in-Little
returns-in-Little c =
    rw c.in-Little.is
    (rw (c.from.ensures, image-low (section_header32_laws c.args.ctx.le) (as32 c.args.self)) at c.put.ensures)

pub returns-in-Big : goal.returns-in-Big
returns-in-Big c =
    rw c.in-Big.is
    (rw (c.from-in-Big.ensures, image-low (section_header64_laws c.args.ctx.le) (as64 c.args.self)) at
    c.put-in-Big.ensures)
