use Rattle.goblin_base.proofs.Common.{ℕ, leb, cond, zip2_splat, zip2_splat_left, zip2_of_maps, length-chunk, chunk}
use Rattle.goblin_base.proofs.AsciiLemmas.{run_is}
use Rattle.goblin_base.proofs.ascii.run_in.Goals as goal

pub returns : goal.returns
returns c =
    let v = chunk c.args.at 16 c.args.bytes.now in
    let long = length-chunk c.args.at 16 c.args.bytes.now c.requires in
    run_is c.args.delim v _ c.lowest_set.result long
    (zip2_of_maps _ _ _ v (zip2_splat _ v 16 c.args.delim long)
    (zip2_splat_left (λ (a b : ℕ). cond (leb a b) 255 0) 128 16 v long)) c.lowest_set.ensures
