use Rattle.goblin_base.proofs.AlikeLemmas.{no_bits_Decide}
use Rattle.goblin_base.proofs.alike.has_alike_lanes.Goals as goal

pub returns : goal.returns
returns g c =
    let room = c.requires.1 in
    no_bits_Decide c.args.delim g.row.N c.args.at c.args.bytes.now c.args.text.now c.requires.0 room c.requires.2
