use Rattle.goblin_base.specs.LayoutLaws.{fits_exactly, one_image}
use Rattle.goblin_base.proofs.laid_out.laws.Goals as goal

pub returns : goal.returns
returns c start = record {
  image = λ ctx. one_image (c.met.R.LaidOut.layout_laws ctx);
  fits = λ ctx. fits_exactly (c.met.R.LaidOut.layout_laws ctx);
  read = λ ctx. (c.met.R.LaidOut.layout_laws ctx).reads_fit;
}
