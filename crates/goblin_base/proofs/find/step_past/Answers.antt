use Rattle.goblin_base.proofs.Common.{◌≡◌, ◌+◌, ◌-◌, ◌/◌, ◌%◌, ◌^◌, ◌<◌, ◌≤◌, ⊎_elim, bit_and, ap, sym, ◌∙◌, arith}
use Rattle.goblin_base.proofs.Common.{cases_lt, cond-true, cond-false, le-leb, lt-leb, and_mask}
use Rattle.goblin_base.proofs.find.step_past.Goals as goal

pub returns : goal.returns
returns c =
    let p = c.args.place in
    let o = c.args.offset in
    let s = c.args.step in
    ⊎_elim
    (λ (l : o < p).
    let none : (p + (2 ^ 128 - (o + 1))) % 2 ^ 128 / 2 ^ 64 ≡ 2 ^ 0 - 1 = omega arith in
    let masked : bit_and s (2 ^ 0 - 1) ≡ 0 = omega (arith, and_mask s 0) in
    ap (bit_and s) none ∙ masked ∙ sym (cond-false _ _ _ (lt-leb p o l)))
    (λ (l : p ≤ o).
    let all : (p + (2 ^ 128 - (o + 1))) % 2 ^ 128 / 2 ^ 64 ≡ 2 ^ 64 - 1 = omega arith in
    let masked : bit_and s (2 ^ 64 - 1) ≡ s = omega (arith, and_mask s 64) in
    ap (bit_and s) all ∙ masked ∙ sym (cond-true _ _ _ (le-leb p o l)))
    (cases_lt o p)
