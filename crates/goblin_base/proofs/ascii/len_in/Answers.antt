use Rattle.goblin_base.proofs.Common.{eqb, w8, bitmask_splat, length-chunk, chunk}
use Rattle.goblin_base.proofs.AsciiLemmas.{delim_is}
use Rattle.goblin_base.proofs.ascii.len_in.Goals as goal

pub returns : goal.returns
returns g c =
    let n = g.row.N in
    let v = chunk c.args.at n c.args.bytes.now in
    let few = c.requires.0 in
    let long = length-chunk c.args.at n c.args.bytes.now c.requires.1 in
    delim_is n c.args.delim v _ c.lowest_set.result long few
    (bitmask_splat w8 eqb v n c.args.delim long few) c.lowest_set.ensures
