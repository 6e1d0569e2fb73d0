-- Bytes that are compared with a text many at a time.
--
-- No bit of a mask is set exactly if no lane is (`no_bits_Decide`). Runs that cover the text, which may overlap, decide
-- whether it is alike (`ends_are`, `quarters_are`).
use Rattle.goblin_base.proofs.Common.{common_steps, ◌≡◌, ℕ, ◌+◌, ◌-◌, ◌%◌, ◌^◌, ◌<◌, ◌≤◌, ◌==◌, ◌&&◌, eqb, cond, Bool}
use Rattle.goblin_base.proofs.Common.{true, false, not, List, [], ◌∷◌, map, take, length, get_or, replicate, refl, sym}
use Rattle.goblin_base.proofs.Common.{ap, ◌∙◌, arith, suc, ⊎_elim, cases_lt, eq-eqb, eqb-true, false≢true, mask_l-mod}
use Rattle.goblin_base.proofs.Common.{bit_mask_l, get_or-chunk, length-chunk, list_any_at, list_any_none, get_or-take}
use Rattle.goblin_base.proofs.Common.{length-take-le, bytes_eq, and_parts, and_from, tops_compared, w8, drop, bit_or}
use Rattle.goblin_base.proofs.Common.{◌||◌, or_parts, zero, get_or-zip2, length-zip2, not-false, bytes_eq-Decides}
use Rattle.goblin_base.proofs.Common.{Decides, chunk, top, IsAlike, is_apart}
use Rattle.std.proofs.lemmas.Grind.{get_or_default_zero, same_number_lists}
use lib.Lanes.{mask_l, zip2}

-- the mask of places none of which is set
empty_mask : (bs : List Bool) → ((k : ℕ) → k < length bs → get_or bs k false ≡ false) → mask_l bs ≡ 0
empty_mask [] none = refl
empty_mask (true ∷ bs) none = absurd (false≢true (sym (none 0 (omega arith))))
empty_mask (false ∷ bs) none = omega (arith, empty_mask bs (λ k l. none (suc k) (omega arith)))

-- no bit of the mask of a comparison is set exactly if it fails at each place that was loaded
compared_Decides : (t : ℕ → ℕ → Bool) (us vs : List ℕ) (f g : ℕ → ℕ) (i n : ℕ) → n ≤ 64 → length us ≡ n → length vs ≡ n
    → ((k : ℕ) → k < n → get_or us k 0 ≡ f (i + k)) → ((k : ℕ) → k < n → get_or vs k 0 ≡ g (i + k))
    → Decides (eqb (mask_l (map (top 7) (zip2 (λ a b. cond (t a b) 255 0) us vs)) % 2 ^ 64) 0)
    ((k : ℕ) → i ≤ k → k < i + n → t (f k) (g k) ≡ false)
compared_Decides t us vs f g i n few long as_long here there =
    let bs = zip2 t us vs in
    let size : length bs ≡ n = length-zip2 t us vs (long ∙ sym as_long) ∙ long in
    let mask : mask_l (map (top 7) (zip2 (λ (a b : ℕ). cond (t a b) 255 0) us vs)) % 2 ^ 64 ≡ mask_l bs =
    ap (λ l. mask_l l % 2 ^ 64) (tops_compared w8 t us vs) ∙ mask_l-mod bs 64 (omega (arith, size, few)) in
    let at : (k : ℕ) → k < n → get_or bs k false ≡ t (f (i + k)) (g (i + k)) =
    λ k l. get_or-zip2 t us vs k 0 0 false (omega (arith, long, l)) (omega (arith, as_long, l))
    ∙ ap (λ x. t x (get_or vs k 0)) (here k l) ∙ ap (t (f (i + k))) (there k l) in (
      (λ e k le l.
          let j : k ≡ i + (k - i) = omega arith in
          let empty : mask_l bs ≡ 0 = sym mask ∙ eqb-true _ 0 e in
          let unset : get_or bs (k - i) false ≡ false = grind (arith, bit_mask_l bs (k - i), empty) in
          ap (λ m. t (f m) (g m)) j ∙ sym (at (k - i) (omega arith)) ∙ unset),
      (λ none. eq-eqb _ 0 (mask ∙ empty_mask bs (λ k l.
          at k (omega (arith, size, l)) ∙ none (i + k) (omega arith) (omega (arith, size, l))))),
    )

-- the lanes of two comparisons, one of which is with the delimiter, are those of one that tests either
either : (x y : Bool) → bit_or (cond x 255 0) (cond y 255 0) ≡ cond (x || y) 255 0
either x y = grind arith

either_lane : (n d : ℕ) (us vs : List ℕ) → length us ≡ n → length vs ≡ n
    → zip2 bit_or (zip2 (λ a b. cond (not (eqb a b)) 255 0) us vs)
    (zip2 (λ a b. cond (eqb a b) 255 0) vs (replicate n d))
    ≡ zip2 (λ a b. cond (not (eqb a b) || eqb b d) 255 0) us vs
either_lane n d [] [] e e' = refl
either_lane n d [] (v ∷ vs) e e' = absurd (omega (arith, e, e'))
either_lane n d (u ∷ us) [] e e' = absurd (omega (arith, e, e'))
either_lane zero d (u ∷ us) (v ∷ vs) e e' = absurd (omega (arith, e))
either_lane (suc n) d (u ∷ us) (v ∷ vs) e e' =
    grind (arith, either_lane n d us vs (omega (arith, e)) (omega (arith, e')))

-- so does one mask of both comparisons of one load of the bytes and of the text
pub no_bits_Decide : (d n i : ℕ) (bytes text : List ℕ) → n ≤ 64 → i + n ≤ length bytes → i + n ≤ length text
    → Decides (eqb (mask_l (map (top 7)
    (zip2 bit_or (zip2 (λ a b. cond (not (eqb a b)) 255 0) (chunk i n bytes) (chunk i n text))
    (zip2 (λ a b. cond (eqb a b) 255 0) (chunk i n text) (replicate n d)))) % 2 ^ 64) 0)
    (IsAlike d bytes text i (i + n))
unfolding IsAlike
no_bits_Decide d n i bytes text few room as_room =
    let us = chunk i n bytes in
    let vs = chunk i n text in
    let long = length-chunk i n bytes room in
    let as_long = length-chunk i n text as_room in
    let none = compared_Decides (λ a b. not (eqb a b) || eqb b d) us vs (λ k. get_or bytes k 0)
    (λ k. get_or text k 0) i n few long as_long
    (λ k l. get_or-chunk i n bytes k 0 l) (λ k l. get_or-chunk i n text k 0 l) in
    rw (either_lane n d us vs long as_long) (
      (λ t k le l.
          let both = or_parts _ _ (none.0 t k le l) in
          (eqb-true _ _ (not-false _ both.0), both.1)),
      (λ alike. none.1 (λ k le l.
          ap (λ x. x || eqb (get_or text k 0) d) (ap not (eq-eqb _ _ (alike k le l).0)) ∙ (alike k le l).1)),
    )

ruleset compared_lists = (length-take-le, bytes_eq-Decides, get_or-take, same_number_lists, get_or_default_zero)

-- what decides whether each byte of a text is alike decides whether the bytes begin with it, and it doesn't contain the
-- delimiter
whole_is : (r : Bool) (d : ℕ) (bytes text : List ℕ)
    → length text ≤ length bytes → Decides r (IsAlike d bytes text 0 (length text))
    → r ≡ (bytes_eq (take (length text) bytes) text && is_apart d text)
unfolding IsAlike is_apart
whole_is r d bytes text room covered =
    grind (arith, compared_lists, list_any_at, list_any_none)

-- so do the first and last bytes of a text, if they cover it
pub ends_are : (r s : Bool) (d n last : ℕ) (bytes text : List ℕ)
    → last ≤ n → last + n ≡ length text → length text ≤ length bytes
    → Decides r (IsAlike d bytes text 0 (0 + n)) → Decides s (IsAlike d bytes text last (last + n))
    → (r && s) ≡ (bytes_eq (take (length text) bytes) text && is_apart d text)
unfolding IsAlike
ends_are r s d n last bytes text cover whole room first rest =
    whole_is (r && s) d bytes text room (
      (λ t k low l.
          let both = and_parts r s t in
          ⊎_elim (λ (m : k < n). first.0 both.0 k low (omega arith))
          (λ (m : n ≤ k). rest.0 both.1 k (omega arith) (omega arith))
          (cases_lt k n)),
      (λ alike. and_from r s
          (first.1 (λ k low l. alike k low (omega arith))) (rest.1 (λ k low l. alike k (omega arith) (omega arith)))),
    )

-- and those a step from them, with them
pub quarters_are : (p q r s : Bool) (d n last step : ℕ) (bytes text : List ℕ)
    → step ≤ last → step ≤ n → last ≤ step + step + n → last + n ≡ length text → length text ≤ length bytes
    → Decides p (IsAlike d bytes text step (step + n))
    → Decides q (IsAlike d bytes text (last - step) (last - step + n))
    → Decides r (IsAlike d bytes text 0 (0 + n)) → Decides s (IsAlike d bytes text last (last + n))
    → (((p && q) && r) && s) ≡ (bytes_eq (take (length text) bytes) text && is_apart d text)
unfolding IsAlike
quarters_are p q r s d n last step bytes text inner few cover whole room second third first fourth =
    whole_is (((p && q) && r) && s) d bytes text room (
      (λ t k low l.
          let three = and_parts ((p && q) && r) s t in
          let two = and_parts (p && q) r three.0 in
          let both = and_parts p q two.0 in
          ⊎_elim (λ (m : k < n). first.0 two.1 k low (omega arith))
          (λ (m : n ≤ k). ⊎_elim (λ (m' : k < step + n). second.0 both.0 k (omega arith) (omega arith))
          (λ (m' : step + n ≤ k). ⊎_elim
          (λ (e : k < last - step + n). third.0 both.1 k (omega arith) (omega arith))
          (λ (e : last - step + n ≤ k). fourth.0 three.1 k (omega arith) (omega arith))
          (cases_lt k (last - step + n)))
          (cases_lt k (step + n)))
          (cases_lt k n)),
      (λ alike. and_from ((p && q) && r) s
          (and_from (p && q) r
          (and_from p q (second.1 (λ k low l. alike k (omega arith) (omega arith)))
          (third.1 (λ k low l. alike k (omega arith) (omega arith))))
          (first.1 (λ k low l. alike k low (omega arith))))
          (fourth.1 (λ k low l. alike k (omega arith) (omega arith)))),
    )

-- bytes whose first is another don't begin with a text
pub first_differs : (bytes text : List ℕ) (o : ℕ)
    → 0 < length text → (get_or text 0 0 == get_or bytes o 0) ≡ false
    → bytes_eq (take (length text) (drop o bytes)) text ≡ false
first_differs bytes text o some differ = grind (arith, common_steps)

-- bytes that are fewer than those of a text don't begin with it
pub too_few : (bytes text : List ℕ) → length bytes < length text → bytes_eq (take (length text) bytes) text ≡ false
too_few bytes text few = grind (arith, common_steps)
