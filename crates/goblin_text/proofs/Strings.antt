-- Strings: the bytes before the first zero byte.
use Rattle.goblin_text.proofs.Common.{common_steps, ◌≡◌, ◌≢◌, ◌∙◌, ℕ, ◌+◌, ◌-◌, ◌<◌, ◌≤◌, ◌==◌, Bool, not, List, ◌++◌}
use Rattle.goblin_text.proofs.Common.{length, get_or, sym, ap, ⊎_elim, arith, slice_range, take-append-add, cases_lt}
use Rattle.goblin_text.proofs.Common.{nat_tests, length-take-le, take-append-le, take_all, position_or_len, up_to_zero}
use Rattle.goblin_text.proofs.Common.{length_of_range, ranges-join}
use Rattle.std.proofs.lemmas.List.Folds.{prefix_len-append}
use Rattle.std.proofs.lemmas.List.Sums.{fails_before_first, passes_at_first, prefix_len-le-length}

abbrev no_zero : ℕ → Bool
no_zero b = not (b == 0)

-- where the first zero byte stands, or the length
abbrev first_zero : List ℕ → ℕ
first_zero a = position_or_len (λ b. b == 0) a

within : (a : List ℕ) → first_zero a ≤ length a
within a = prefix_len-le-length no_zero a

length-up : (a : List ℕ) → length (up_to_zero a) ≡ first_zero a
unfolding up_to_zero
length-up a = length-take-le (first_zero a) a (within a)

-- a zero byte ends the string, whatever follows
pub stops : (a b : List ℕ) → length (up_to_zero a) < length a → up_to_zero (a ++ b) ≡ up_to_zero a
unfolding up_to_zero
stops a b h = grind (arith, length-up, prefix_len-append, take-append-le)

-- with no zero byte it goes on
pub goes_on : (a b : List ℕ) → length a ≤ length (up_to_zero a) → up_to_zero (a ++ b) ≡ a ++ up_to_zero b
unfolding up_to_zero
goes_on a b h = grind (arith, length-up, within, prefix_len-append, take-append-add)

pub whole : (a : List ℕ) → length a ≤ length (up_to_zero a) → up_to_zero a ≡ a
unfolding up_to_zero
whole a h = take_all (first_zero a) a (omega (arith, length-up a))

-- ---- zero bytes
pub no_zero_whole : (a : List ℕ) → ((m : ℕ) → m < length a → get_or a m 0 ≢ 0) → up_to_zero a ≡ a
no_zero_whole a none = ⊎_elim
    (λ (l : first_zero a < length a).
    let z : get_or a (first_zero a) 0 ≡ 0 = grind (arith, nat_tests, passes_at_first (λ b. b == 0) a 0 l) in
    absurd (none (first_zero a) l z))
    (λ (l : length a ≤ first_zero a). whole a (omega (arith, length-up a)))
    (cases_lt (first_zero a) (length a))

pub whole_no_zero : (a : List ℕ) (m : ℕ) → up_to_zero a ≡ a → m < length a → get_or a m 0 ≢ 0
whole_no_zero a m is l = grind (arith, length-up, fails_before_first)

-- ---- strings in a range
-- a byte of a string
pub get_up : (bytes : List ℕ) (i e m : ℕ) → m < length (up_to_zero (slice_range bytes i e))
    → get_or (up_to_zero (slice_range bytes i e)) m 0 ≡ get_or bytes (i + m) 0
unfolding up_to_zero
get_up bytes i e m l = grind (arith, common_steps)

-- a string ends where a zero byte stands first, or where the range does
pub string_found : (bytes : List ℕ) (i j s : ℕ) → i ≤ j → j ≤ length bytes
    → s ≡ i + first_zero (slice_range bytes i j)
    → slice_range bytes i s ≡ up_to_zero (slice_range bytes i j)
unfolding up_to_zero
string_found bytes i j s l m e = grind (arith, common_steps)

-- a string goes on after bytes with no zero byte
pub string-after : (bytes : List ℕ) (i j s k : ℕ) → i ≤ j → j ≤ s → s ≤ k
    → up_to_zero (slice_range bytes i j) ≡ slice_range bytes i j
    → slice_range bytes j s ≡ up_to_zero (slice_range bytes j k)
    → slice_range bytes i s ≡ up_to_zero (slice_range bytes i k)
string-after bytes i j s k l m n front rest =
    let a = slice_range bytes i j in
    rw (ranges-join bytes i j s l m, rest, ranges-join bytes i j k l (omega arith))
    (sym (goes_on a (slice_range bytes j k) (omega (arith, ap length front))))

-- a string that ends in a range ends there in a longer one
pub string-within : (bytes : List ℕ) (i s j k : ℕ) → i ≤ s → s < j → j ≤ k → j ≤ length bytes
    → slice_range bytes i s ≡ up_to_zero (slice_range bytes i j)
    → slice_range bytes i s ≡ up_to_zero (slice_range bytes i k)
string-within bytes i s j k l m n h is =
    let a = slice_range bytes i j in
    let size : length a ≡ j - i = length_of_range bytes i j h in
    let short : length (slice_range bytes i s) ≡ s - i = length_of_range bytes i s (omega arith) in
    is ∙ sym (ap up_to_zero (ranges-join bytes i j k (omega arith) n)
    ∙ stops a (slice_range bytes j k) (omega (arith, ap length is)))

pub ruleset string_ends = (string-after)
