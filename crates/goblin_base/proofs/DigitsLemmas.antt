-- Halving a number takes one binary digit off it.
use Rattle.goblin_base.proofs.Common.{pow-suc, ◌^◌, ◌↔◌, ◌≡◌, ℕ, zero, suc, ◌+◌, ◌/◌, ◌≤◌, ◌<◌, refl, sym, ap, arith}
use Rattle.goblin_base.proofs.Common.{digits_within}
use Rattle.goblin_base.specs.Search.{digits}

within_zero : (n : ℕ) → digits_within n 0 ≡ 0
within_zero n = grind arith

-- a larger bound on the steps changes nothing
within_more : (n m k : ℕ) → k ≤ n → k ≤ m → digits_within n k ≡ digits_within m k
within_more zero m k p q = let e : k ≡ 0 = omega arith in rw e (sym (within_zero m))
within_more (suc n) zero k p q = let e : k ≡ 0 = omega arith in rw e refl
within_more (suc n) (suc m) zero p q = refl
within_more (suc n) (suc m) (suc k) p q = ap (λ x. x + 1) (within_more n m (suc k / 2) (omega arith) (omega arith))

pub digits_half : (k : ℕ) → 0 < k → digits k ≡ digits (k / 2) + 1
unfolding digits
digits_half k h = grind (arith, within_more)

digits-zero : digits 0 ≡ 0
unfolding digits
digits-zero = refl

pub digits_one : (k : ℕ) → k ≡ 1 → digits k ≡ 1
unfolding digits
digits_one k e = rw e refl

within_mono : (n a b : ℕ) → a ≤ b → digits_within n a ≤ digits_within n b
within_mono zero a b h = omega arith
within_mono (suc n) zero b h = omega arith
within_mono (suc n) (suc a) zero h = absurd (omega arith)
within_mono (suc n) (suc a) (suc b) h = omega (arith, within_mono n (suc a / 2) (suc b / 2) (omega arith))

pub digits_mono : (a b : ℕ) → a ≤ b → digits a ≤ digits b
unfolding digits
digits_mono a b h = omega (arith, within_more a b a (omega arith) h, within_mono b a b h)

-- what is left after one probe, on either side, has one digit less
pub digits_step : (s t : ℕ) → 0 < s → t ≤ s / 2 → digits t + 1 ≤ digits s
digits_step s t h l = omega (arith, digits_half s h, digits_mono t (s / 2) l)

-- and no more than one less
pub digits_step_back : (s t : ℕ) → s / 2 ≤ t → digits s ≤ digits t + 1
digits_step_back s t l = grind (arith, digits_half, digits_mono)

pow_positive : (n : ℕ) → 0 < 2 ^ n
pow_positive zero = omega arith
pow_positive (suc n) = omega (arith, pow-suc 2 n, pow_positive n)

-- k has at most n binary digits exactly if it is below 2 ^ n
pub digits_count : (k n : ℕ) → (digits k ≤ n) ↔ (k < 2 ^ n)
digits_count zero n = (λ h. pow_positive n, λ h. omega (arith, digits-zero))
digits_count (suc k) zero = omega (arith, digits_half)
digits_count (suc k) (suc n) = grind (arith, digits_half, digits_count (suc k / 2) n)

-- a length plus 1 has at most 64 digits
pub digits_few : (k : ℕ) → k + 1 < 2 ^ 64 → digits (k + 1) ≤ 64
digits_few k h = (digits_count (k + 1) 64).1 h

-- for the binary search: the probes of the last step, and the most
pub ruleset probes = (digits_one, digits_few)
