-- Each field after the identification is in the range of its width: the numbers of 16 and 32 bits by their types.
use Rattle.goblin_headers.proofs.Common.{refl, arith, Big, rules}
use Rattle.goblin_headers.specs.Header.{HeaderFits}
use Rattle.goblin_headers.proofs.fits.fits_class.Goals as goal

pub returns-in-Little : goal.returns-in-Little
returns-in-Little c = rw c.in-Little.is (
  λ t. let own = c.fits_class32.ensures.0 t in search (rules, arith, own.0, own.1, own.2) depth 20,
  λ fits. c.fits_class32.ensures.1 (fits.1.1.1.0, fits.1.1.1.1.0, fits.1.1.1.1.1.0),
)

pub returns-in-Big : goal.returns-in-Big
returns-in-Big c =
    let fits : HeaderFits Big c.args.header = search (rules, arith) depth 20 in
    rw c.in-Big.is (λ t. fits, λ t. refl)
