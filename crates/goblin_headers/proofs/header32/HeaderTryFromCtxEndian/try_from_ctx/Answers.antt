-- The data byte names the byte order, and the bytes hold the header, so it is read in that order (`reads_found`).
use Rattle.goblin_headers.proofs.Common.{refl, sym, ap, ◌∙◌, arith, headed, header32, with_size}
use Rattle.goblin_headers.proofs.WholeTrips.{reads_found}
use Rattle.goblin_headers.proofs.header32.HeaderTryFromCtxEndian.try_from_ctx.Goals as goal

pub returns : goal.returns
returns c =
    ap (with_size 52)
    (reads_found (headed header32) _ c.args.bytes.now c.in-Some.order c.at.result
    (sym c.in-Some.is ∙ c.order_of.ensures) c.at.ensures (omega arith) (c.in_ok-room-2.ensures.fits.0 refl))
