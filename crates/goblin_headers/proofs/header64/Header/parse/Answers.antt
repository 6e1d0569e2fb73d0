-- The data byte names the byte order, and the bytes hold the header, so it is read in that order (`reads_found`).
use Rattle.goblin_headers.proofs.Common.{refl, sym, ◌∙◌, arith, headed, header64}
use Rattle.goblin_headers.proofs.WholeTrips.{reads_found}
use Rattle.goblin_headers.proofs.header64.Header.parse.Goals as goal

pub returns : goal.returns
returns c =
    reads_found (headed header64) _ c.args.bytes.now c.in-Some.order c.at.result (sym c.in-Some.is ∙ c.order_of.ensures)
    c.at.ensures (omega arith) (c.in_ok-room-2.ensures.fits.0 refl)
