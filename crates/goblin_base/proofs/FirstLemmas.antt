-- Where a byte stands first in a range of bytes: before it none is equal to it.
use Rattle.goblin_base.proofs.Common.{common_steps, ◌≡◌, ℕ, ◌+◌, ◌-◌, ◌<◌, ◌≤◌, ◌==◌, ◌∙◌, true, false, eqb, List}
use Rattle.goblin_base.proofs.Common.{length, drop, get_or, sym, ap, arith, get_or-drop, get_or-take}
use Rattle.goblin_base.proofs.Common.{position_or_len_is, position_or_len}
use Rattle.std.proofs.Common.{slice_range}

-- the byte at an index of a range
pub get_in_range : (bytes : List ℕ) (from to k : ℕ) → k < to - from
    → get_or (slice_range bytes from to) k 0 ≡ get_or bytes (from + k) 0
get_in_range bytes from to k l = get_or-take (to - from) (drop from bytes) k 0 l ∙ get_or-drop from bytes k 0

-- how many bytes a range has
pub length_of_range : (bytes : List ℕ) (from to : ℕ) → to ≤ length bytes
    → length (slice_range bytes from to) ≡ to - from
length_of_range bytes from to m = grind (arith, common_steps)

-- none of the bytes up to an offset is equal, and the one there is, unless the range ends there
pub found : (bytes : List ℕ) (d from to at : ℕ)
    → from ≤ at → at ≤ to → to ≤ length bytes
    → ((k : ℕ) → from ≤ k → k < at → eqb (get_or bytes k 0) d ≡ false)
    → (at < to → eqb (get_or bytes at 0) d ≡ true)
    → at ≡ from + position_or_len (λ b. b == d) (slice_range bytes from to)
found bytes d from to at l m n none there =
    let range = slice_range bytes from to in
    let len : length range ≡ to - from = length_of_range bytes from to n in
    let place : from + (at - from) ≡ at = omega arith in
    let first : position_or_len (λ b. b == d) range ≡ at - from =
    position_or_len_is (λ b. b == d) range (at - from) 0 (omega (arith, len))
    (λ k h. ap (λ x. eqb x d) (get_in_range bytes from to k (omega arith))
    ∙ none (from + k) (omega arith) (omega arith))
    (λ h. ap (λ x. eqb x d) (get_in_range bytes from to (at - from) (omega (arith, len, h)))
    ∙ ap (λ x. eqb (get_or bytes x 0) d) place ∙ there (omega (arith, len, h))) in
    sym (ap (λ k. from + k) first ∙ place)
