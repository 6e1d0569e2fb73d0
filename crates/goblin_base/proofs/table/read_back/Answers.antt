use Rattle.goblin_base.specs.TableLaws.{records-flat_map}
use Rattle.goblin_base.proofs.table.read_back.Goals as goal

pub returns : goal.returns
returns g c ctx all fits =
    let is = (g.met.R.Record.laws ctx).is_record in
    records-flat_map (g.R.SizeWith.size_of ctx) (g.R.Record.read ctx) (g.R.Record.image ctx)
    (g.R.Record.fits ctx) is.length_image is.reads_back all fits
