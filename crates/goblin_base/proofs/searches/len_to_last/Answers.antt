-- The highest bit of the mask is that of the last delimiter: the last piece begins after it.
use Rattle.goblin_base.proofs.Common.{◌≡◌, ◌+◌, ◌<◌, ◌≤◌, eqb, length, w8, arith, ap, ◌∙◌, sym, ⊎_elim, cases_lt}
use Rattle.goblin_base.proofs.Common.{take_all, bitmask_splat, chunk}
use Rattle.goblin_base.proofs.LastLemmas.{IsLast, last_is, start_in, start_across, start_at_none}
use Rattle.goblin_base.proofs.searches.len_to_last.Goals.{After-digits_of}
use Rattle.goblin_base.proofs.searches.len_to_last.Goals as goal

last : (c : After-digits_of) → IsLast (λ b. eqb b c.args.delim) c.args.bytes.now 0 c.digits_of.result
last c =
    let bytes = c.args.bytes.now in
    let all : chunk 0 16 bytes ≡ bytes = take_all 16 bytes (omega (arith, c.requires)) in
    let long : length (chunk 0 16 bytes) ≡ 16 = ap length all ∙ c.requires in
    last_is _ bytes 0 (omega (arith, c.requires)) _ _
    (bitmask_splat w8 eqb (chunk 0 16 bytes) 16 c.args.delim long (omega arith))
    c.digits_of.ensures

pub returns-clause-within : goal.returns-clause-within
returns-clause-within c = (last (goal.at.returns-clause-within c).After-digits_of).within

pub returns-clause-value : goal.returns-clause-value
returns-clause-value c =
    let bytes = c.args.bytes.now in
    let d = c.args.delim in
    let n = c.digits_of.result in
    let is = last (goal.at.returns-clause-value c).After-digits_of in
    ⊎_elim
    (λ (l : 0 < n).
    let same : 0 + n ≡ n = omega arith in
    sym (start_in bytes d 0 n is l ∙ same))
    (λ (l : n ≤ 0).
    let z : n ≡ 0 = omega arith in
    z ∙ sym (start_across bytes d 0 n is z ∙ start_at_none bytes d))
    (cases_lt 0 n)
