-- The digits of a number in some base.
use Rattle.goblin_base.proofs.Common.{◌≡◌, ℕ, zero, suc, ◌/◌, ◌%◌, ◌^◌, ◌<◌, ◌≤◌, Bool, false, if◌then◌else◌, List, []}
use Rattle.goblin_base.proofs.Common.{◌∷◌, arith, eqb, subst, div-eq_of_lt, mod-lt, pow-suc, nat_tests, div_below}
use Rattle.goblin_base.proofs.Common.{digit_glyph, digits, digits_onto, IsAscii}
use Rattle.std.proofs.lemmas.Str.Ascii.{IsAscii-cons, IsAscii-nil}

-- a digit before others
pub digits-more : (base k n : ℕ) (acc : List ℕ)
    → 0 < base → base ≤ n
    → digits_onto (suc k) base false n acc ≡ digits_onto k base false (n / base) (digit_glyph false (n % base) ∷ acc)
digits-more base k n acc some h = grind arith

-- the last digit
pub digits-last : (base k n : ℕ) (acc : List ℕ)
    → n < base → digits_onto (suc k) base false n acc ≡ digit_glyph false (n % base) ∷ acc
digits-last base k n acc h = grind (arith, div-eq_of_lt)

-- the rest of a number has one digit less
pub shorter : (base n s : ℕ) → 0 < base → n < base ^ (suc s) → n / base < base ^ s
shorter base n s some h = div_below n base (base ^ s) some (subst (λ x. n < x) (pow-suc base s) h)

glyph_is_ascii : (d : ℕ) → d < 16 → digit_glyph false d < 128
glyph_is_ascii d h = grind (arith, nat_tests)

digits_are_ascii : (base k n : ℕ) (acc : List ℕ)
    → 0 < base → base ≤ 16 → IsAscii acc → IsAscii (digits_onto k base false n acc)
digits_are_ascii base zero n acc some most h = h
digits_are_ascii base (suc k) n acc some most h =
    by_test (eqb (n / base) 0)
    (digits_are_ascii base k (n / base) (digit_glyph false (n % base) ∷ acc) some most first_digit)
  where
    first_digit : IsAscii (digit_glyph false (n % base) ∷ acc)
    first_digit = let low : n % base < base = mod-lt n some in
        IsAscii-cons _ acc (glyph_is_ascii (n % base) (omega arith)) h

    by_test : (b : Bool)
        → IsAscii (digits_onto k base false (n / base) (digit_glyph false (n % base) ∷ acc))
        → IsAscii (if b then digit_glyph false (n % base) ∷ acc
        else digits_onto k base false (n / base) (digit_glyph false (n % base) ∷ acc))
    by_test b more = grind (arith, first_digit)

pub digits-ascii : (base n : ℕ) → 0 < base → base ≤ 16 → IsAscii (digits base false n)
unfolding digits
digits-ascii base n some most = digits_are_ascii base 64 n [] some most IsAscii-nil
