-- In each branch the raw header that was read, widened, is the header of either class (`read_header-raw`): the tests
-- before it have shown that the bytes are long enough, start with the magic number and name the class of the branch.
-- Only the class differs between the two.
use Rattle.goblin_headers.proofs.Common.{refl, sym, ◌∙◌, headed, header32, header64, widened32, widened64}
use Rattle.goblin_base.specs.declared.container.Container.TheVariants as class
use Rattle.goblin_headers.proofs.WholeTrips.{read_header-raw}
use Rattle.goblin_headers.proofs.header.HeaderTryFromCtxEndian.try_from_ctx.Goals as goal

pub returns-in_ok-header-in-1 : goal.returns-in_ok-header-in-1
returns-in_ok-header-in-1 c =
    rw c.from.ensures
    (read_header-raw class.Little (headed header32) widened32 c.args.bytes.now c.in_ok-header-in-1.header
    c.in_ok-header-in-1.size (λ order. (refl, refl)) c.if-bytes-lt-SIZEOF_IDENT.false
    (sym c.starts_with.ensures.value ∙ c.if-not-starts_with.false) (rw c.in-1.is refl) c.in_ok-header-in-1.ensures)

pub returns-in_ok-header-in-2 : goal.returns-in_ok-header-in-2
returns-in_ok-header-in-2 c =
    rw c.from-in-2.ensures
    (read_header-raw class.Big (headed header64) widened64 c.args.bytes.now c.in_ok-header-in-2.header
    c.in_ok-header-in-2.size (λ order. (refl, refl)) c.if-bytes-lt-SIZEOF_IDENT.false
    (sym c.starts_with.ensures.value ∙ c.if-not-starts_with.false) (rw c.in-2.is refl) c.in_ok-header-in-2.ensures)
