-- The masks that the vectors compute are those of the bytes: comparing with a repeated byte tests each lane.
use Rattle.goblin_base.proofs.Common.{◌≡◌, ◌%◌, ◌^◌, eqb, leb, length, map, replicate, ap, ◌∙◌, arith, w8, length-map}
use Rattle.goblin_base.proofs.Common.{take_all, bitmask_splat, tops_compared, zip2_splat_left, mask_l-mod, mask_l}
use Rattle.goblin_base.proofs.Common.{chunk}
use Rattle.goblin_base.proofs.marks.Marks.of.Goals as goal

pub returns-clause-delims : goal.returns-clause-delims
returns-clause-delims c =
    let bytes = c.args.bytes.now in
    let all : chunk 0 16 bytes ≡ bytes = take_all 16 bytes (omega (arith, c.requires)) in
    let long : length (chunk 0 16 bytes) ≡ 16 = ap length all ∙ c.requires in
    bitmask_splat w8 eqb (chunk 0 16 bytes) 16 c.args.delim long (omega arith)
    ∙ ap (λ v. mask_l (map (λ b. eqb b c.args.delim) v)) all

pub returns-clause-highs : goal.returns-clause-highs
returns-clause-highs c =
    let bytes = c.args.bytes.now in
    let all : chunk 0 16 bytes ≡ bytes = take_all 16 bytes (omega (arith, c.requires)) in
    let v = chunk 0 16 bytes in
    let long : length v ≡ 16 = ap length all ∙ c.requires in
    let highs = map (leb 128) v in
    ap (λ l. mask_l l % 2 ^ 64) (tops_compared w8 leb (replicate 16 128) v ∙ zip2_splat_left leb 128 16 v long)
    ∙ mask_l-mod highs 64 (omega (arith, length-map v (leb 128), long))
    ∙ ap (λ w. mask_l (map (leb 128) w)) all
