-- Where the last piece before an offset begins: by the mask of sixteen bytes, or by a byte.
--
-- No bit of a mask of r binary digits is set from r on, and the one before is: so the last marked byte of sixteen is
-- found by counting leading zeros (`last_is`). A piece begins after the last delimiter: in these bytes if one of them
-- is it (`start_in`), and otherwise where it begins for the bytes before them (`start_across`).
use Rattle.goblin_base.proofs.Common.{common_steps, ◌≡◌, ◌≢◌, ℕ, zero, suc, ◌+◌, ◌-◌, ◌*◌, ◌/◌, ◌%◌, ◌^◌, ◌<◌, ◌≤◌, eqb}
use Rattle.goblin_base.proofs.Common.{Bool, true, false, cond, List, map, length, get_or, refl, sym, ap, subst, ◌∙◌}
use Rattle.goblin_base.proofs.Common.{⊎_elim, arith, div-eq_of_lt, div-eq_of_lt-le, pow-le-pow_right, pow-suc}
use Rattle.goblin_base.proofs.Common.{cases_Bool, cases_lt, get_or-map, length-map, leading_length, bit_mask_l}
use Rattle.goblin_base.proofs.Common.{get_or-chunk, length-chunk, mask_l-lt, slice_range, mask_l, piece_start, chunk}
use Rattle.std.specs.Int.Count.{count_leading_zeros}
use Rattle.goblin_base.proofs.FirstLemmas.{get_in_range}
use Rattle.goblin_base.proofs.PiecesLemmas.{start_after_delim, start_more}

-- ---- the digits of a mask
not_set : (b : Bool) → cond b 1 zero ≡ zero → b ≡ false
not_set b e = grind arith

is_set : (b : Bool) → cond b 1 zero ≡ suc zero → b ≡ true
is_set b e = grind arith

-- a mask of r binary digits: no bit is set from r on, and the one before is
module _ (ms : List Bool) (r : ℕ) (below : mask_l ms < 2 ^ r) (above : 2 ^ r ≤ 2 * mask_l ms + 1) where
  clear_from : (k : ℕ) → r ≤ k → get_or ms k false ≡ false
  clear_from k l =
      let more : 2 ^ r ≤ 2 ^ k = pow-le-pow_right {n = 2} (omega arith) l in
      let none : mask_l ms / 2 ^ k ≡ 0 = div-eq_of_lt (omega (arith, more)) in
      not_set (get_or ms k false) (sym (bit_mask_l ms k) ∙ ap (λ m. m % 2) none)

  set_before : (j : ℕ) → r ≡ suc j → get_or ms j false ≡ true
  set_before j e =
      let twice : 2 ^ r ≡ 2 ^ j * 2 = ap (λ k. 2 ^ k) e ∙ pow-suc 2 j in
      let one : mask_l ms / 2 ^ j ≡ 1 =
      div-eq_of_lt-le {k = 1} (2 ^ j) (omega (arith, twice, above)) (omega (arith, twice, below)) in
      is_set (get_or ms j false) (sym (bit_mask_l ms j) ∙ ap (λ m. m % 2) one)

  few_digits : length ms ≡ 16 → r ≤ 16
  few_digits long = ⊎_elim
      (λ (l : 16 < r).
      let more : 2 ^ 17 ≤ 2 ^ r = pow-le-pow_right {n = 2} (omega arith) l in
      let less : mask_l ms < 2 ^ 16 = subst (λ n. mask_l ms < 2 ^ n) long (mask_l-lt ms) in
      absurd (omega (arith, more, less, above)))
      (λ (l : r ≤ 16). l)
      (cases_lt 16 r)

-- of the sixteen bytes from an offset on, the last that passes a test is the one before at + r
pub record IsLast (test : ℕ → Bool) (bytes : List ℕ) (at r : ℕ) : Type 0 where
  pub within : r ≤ 16
  pub fails : (k : ℕ) → at + r ≤ k → k < at + 16 → test (get_or bytes k 0) ≡ false
  pub stops : (j : ℕ) → r ≡ suc j → test (get_or bytes (at + j) 0) ≡ true

module _ (test : ℕ → Bool) (bytes : List ℕ) (at : ℕ) (room : at + 16 ≤ length bytes) where
  lane : (k : ℕ) → k < 16 → get_or (map test (chunk at 16 bytes)) k false ≡ test (get_or bytes (at + k) 0)
  lane k l =
      get_or-map test (chunk at 16 bytes) k 0 false (omega (arith, length-chunk at 16 bytes room))
      ∙ ap test (get_or-chunk at 16 bytes k 0 l)

  pub last_is : (mask r : ℕ)
      → mask ≡ mask_l (map test (chunk at 16 bytes)) → r ≡ 64 - count_leading_zeros 64 mask → IsLast test bytes at r
  last_is mask r marked digits =
      let ms = map test (chunk at 16 bytes) in
      let long : length ms ≡ 16 = length-map (chunk at 16 bytes) test ∙ length-chunk at 16 bytes room in
      let less : mask_l ms < 2 ^ 16 = subst (λ n. mask_l ms < 2 ^ n) long (mask_l-lt ms) in
      let found = leading_length 64 mask (omega (arith, marked, less)) in
      let same : r ≡ found.0 = omega (arith, digits, found.1) in
      let below : mask_l ms < 2 ^ r =
      subst (λ n. mask_l ms < 2 ^ n) (sym same) (subst (λ m. m < 2 ^ found.0) marked found.2) in
      let above : 2 ^ r ≤ 2 * mask_l ms + 1 =
      subst (λ n. 2 ^ n ≤ 2 * mask_l ms + 1) (sym same) (subst (λ m. 2 ^ found.0 ≤ 2 * m + 1) marked found.3) in
      let few : r ≤ 16 = few_digits ms r below above long in
      record {
        within = few;
        fails = λ k l m.
            let place : at + (k - at) ≡ k = omega arith in
            subst (λ x. test (get_or bytes x 0) ≡ false) place
            (sym (lane (k - at) (omega arith)) ∙ clear_from ms r below above (k - at) (omega arith));
        stops = λ j e. sym (lane j (omega (arith, few))) ∙ set_before ms r below above j e;
      }

-- ---- the piece
pub start_at_none : (bytes : List ℕ) (d : ℕ) → piece_start bytes d 0 ≡ 0
unfolding piece_start
start_at_none bytes d = refl

module _ (bytes : List ℕ) (d : ℕ) where
  -- no delimiter is among the n bytes from an offset on
  start_over : (o n : ℕ)
      → ((k : ℕ) → o ≤ k → k < o + n → eqb (get_or bytes k 0) d ≡ false)
      → piece_start bytes d (o + n) ≡ piece_start bytes d o
  start_over o zero none = let e : o + 0 ≡ o = omega arith in ap (piece_start bytes d) e
  start_over o (suc n) none =
      let e : o + suc n ≡ suc (o + n) = omega arith in
      ap (piece_start bytes d) e
      ∙ start_more bytes d (o + n) (none (o + n) (omega arith) (omega arith))
      ∙ start_over o n (λ k l m. none k l (omega arith))

  -- the last delimiter of sixteen bytes ends at at + r
  pub start_in : (at r : ℕ) → IsLast (λ b. eqb b d) bytes at r → 0 < r → piece_start bytes d (at + 16) ≡ at + r
  start_in at r last l =
      let w = last.within in
      let j = r - 1 in
      let end : at + r + (16 - r) ≡ at + 16 = omega (arith, w) in
      let next : suc (at + j) ≡ at + r = omega arith in
      sym (ap (piece_start bytes d) end)
      ∙ start_over (at + r) (16 - r) (λ k f t. last.fails k f (omega (arith, w)))
      ∙ sym (ap (piece_start bytes d) next)
      ∙ start_after_delim bytes d (at + j) (last.stops j (omega arith))
      ∙ next

  pub start_across : (at r : ℕ)
      → IsLast (λ b. eqb b d) bytes at r → r ≡ 0 → piece_start bytes d (at + 16) ≡ piece_start bytes d at
  start_across at r last z = start_over at 16 (λ k f t. last.fails k (omega arith) t)

  -- of bytes that stand at an offset of others: their last piece is the others', if it begins after a delimiter
  pub start_inside : (part : List ℕ) (a n : ℕ)
      → ((k : ℕ) → k < n → get_or part k 0 ≡ get_or bytes (a + k) 0)
      → (0 < piece_start part d n → piece_start bytes d (a + n) ≡ a + piece_start part d n)
      × (piece_start part d n ≡ 0 → piece_start bytes d (a + n) ≡ piece_start bytes d a)
  start_inside part a zero same = grind (arith, start_at_none)
  start_inside part a (suc n) same =
      let e : a + suc n ≡ suc (a + n) = omega arith in
      let before = start_inside part a n (λ k l. same k (omega arith)) in
      ⊎_elim
      (λ (is : eqb (get_or part n 0) d ≡ true).
      let whole : piece_start bytes d (a + suc n) ≡ a + suc n =
      ap (piece_start bytes d) e
      ∙ start_after_delim bytes d (a + n) (ap (λ b. eqb b d) (sym (same n (omega arith))) ∙ is) ∙ sym e in
      let own : piece_start part d (suc n) ≡ suc n = start_after_delim part d n is in
      (λ l. whole ∙ ap (λ k. a + k) (sym own), λ z. absurd (omega (arith, own, z))))
      (λ (no : eqb (get_or part n 0) d ≡ false).
      let less : piece_start bytes d (a + suc n) ≡ piece_start bytes d (a + n) =
      ap (piece_start bytes d) e
      ∙ start_more bytes d (a + n) (ap (λ b. eqb b d) (sym (same n (omega arith))) ∙ no) in
      let own : piece_start part d (suc n) ≡ piece_start part d n = start_more part d n no in (
        λ l. less ∙ before.0 (omega (arith, own, l)) ∙ ap (λ k. a + k) (sym own),
        λ z. less ∙ before.1 (sym own ∙ z),
      ))
      (cases_Bool (eqb (get_or part n 0) d))

  -- by a byte
  pub start_at_delim : (s : ℕ) → 0 < s → get_or bytes (s - 1) 0 ≡ d → piece_start bytes d s ≡ s
  start_at_delim s l e = grind (arith, common_steps, start_after_delim)

  pub start_before_byte : (s : ℕ)
      → 0 < s → get_or bytes (s - 1) 0 ≢ d → piece_start bytes d s ≡ piece_start bytes d (s - 1)
  start_before_byte s l n = grind (arith, common_steps, start_more)

  pub start_at_zero : (s : ℕ) → s ≡ 0 → piece_start bytes d s ≡ s
  unfolding piece_start
  start_at_zero s e = let zero_is : piece_start bytes d 0 ≡ 0 = refl in ap (piece_start bytes d) e ∙ zero_is ∙ sym e

-- the last piece of a range up to an offset, by that of a part of the range which ends there
pub range_start : (bytes : List ℕ) (d from to start n : ℕ)
    → from ≤ start → start + n ≤ to → to ≤ length bytes
    → (0 < piece_start (slice_range bytes start (start + n)) d n
    → piece_start (slice_range bytes from to) d (start + n - from)
    ≡ start - from + piece_start (slice_range bytes start (start + n)) d n)
    × (piece_start (slice_range bytes start (start + n)) d n ≡ 0
    → piece_start (slice_range bytes from to) d (start + n - from)
    ≡ piece_start (slice_range bytes from to) d (start - from))
range_start bytes d from to start n l m w =
    let range = slice_range bytes from to in
    let part = slice_range bytes start (start + n) in
    let end : start + n - from ≡ start - from + n = omega arith in
    let same : (k : ℕ) → k < n → get_or part k 0 ≡ get_or range (start - from + k) 0 =
    (λ k h.
    let here : start + k ≡ from + (start - from + k) = omega arith in
    get_in_range bytes start (start + n) k (omega arith)
    ∙ ap (λ x. get_or bytes x 0) here
    ∙ sym (get_in_range bytes from to (start - from + k) (omega arith))) in
    let inside = start_inside range d part (start - from) n same in
    (λ p. ap (piece_start range d) end ∙ inside.0 p, λ z. ap (piece_start range d) end ∙ inside.1 z)

pub ruleset starts = (start_at_delim, start_before_byte, start_at_zero)
