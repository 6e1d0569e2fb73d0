use Rattle.goblin_base.specs.LayoutLaws.{image-low}
use Rattle.goblin_headers.specs.ProgramHeader.{as32}
use Rattle.goblin_headers.specs.ProgramHeaderLaws.{program_header32_laws}
use Rattle.goblin_headers.proofs.program_header.ProgramHeaderLaidOutCtx.put.Goals as goal

pub returns-in-Little : goal.returns-in-Little
returns-in-Little c =
    rw c.in-Little.is
    (rw (c.from.ensures, image-low (program_header32_laws c.args.ctx.le) (as32 c.args.self)) at c.put.ensures)
