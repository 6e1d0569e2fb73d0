-- Where pieces begin and end.
use Rattle.goblin_base.proofs.Common.{common_steps, ◌≡◌, ℕ, zero, suc, ◌+◌, ◌-◌, ◌<◌, ◌≤◌, ⊎_elim, Bool, true, false}
use Rattle.goblin_base.proofs.Common.{not, eqb, List, [], ◌∷◌, length, get_or, take, drop, refl, sym, ap, ◌∙◌, arith}
use Rattle.goblin_base.proofs.Common.{cases_Bool, cases_lt, both_ways, cond-true, cond-false, get_or-drop, get_or-take}
use Rattle.goblin_base.proofs.Common.{length-drop, drop_more, prefix_len-le-length, fails_before_first, passes_at_first}
use Rattle.goblin_base.proofs.Common.{position_or_len_is, slice_range, piece_end, piece, piece_start}
pub use Rattle.goblin_base.specs.TextLaws.{start_to}

abbrev is_delim : ℕ → ℕ → Bool
is_delim d b = eqb b d

module _ (bytes : List ℕ) (d : ℕ) where
  pub end_from : (o : ℕ) → o ≤ piece_end bytes d o
  unfolding piece_end
  end_from o = omega arith

  pub end_within : (o : ℕ) → o ≤ length bytes → piece_end bytes d o ≤ length bytes
  unfolding piece_end
  end_within o h = omega (arith, prefix_len-le-length (λ b. not (is_delim d b)) (drop o bytes), length-drop o bytes)

  -- no byte of a piece is the delimiter
  pub inside_piece : (o k : ℕ) → o ≤ k → k < piece_end bytes d o → eqb (get_or bytes k 0) d ≡ false
  unfolding piece_end
  inside_piece o k h l =
      let e : o + (k - o) ≡ k = omega arith in
      ap (λ x. eqb (get_or bytes x 0) d) (sym e) ∙ ap (λ x. eqb x d) (sym (get_or-drop o bytes (k - o) 0))
      ∙ fails_before_first (is_delim d) (drop o bytes) (k - o) 0 (omega arith)

  -- a piece ends at a delimiter, or with the bytes
  pub at_end : (o : ℕ)
      → o ≤ length bytes → piece_end bytes d o < length bytes → eqb (get_or bytes (piece_end bytes d o) 0) d ≡ true
  unfolding piece_end
  at_end o h l = grind (arith, get_or-drop, passes_at_first, length-drop)

  -- these two fix the end
  pub end_is : (o e : ℕ)
      → o ≤ e → e ≤ length bytes → ((k : ℕ) → o ≤ k → k < e → eqb (get_or bytes k 0) d ≡ false)
      → (e < length bytes → eqb (get_or bytes e 0) d ≡ true)
      → piece_end bytes d o ≡ e
  unfolding piece_end
  end_is o e from within none there =
      let same : o + (e - o) ≡ e = omega arith in
      ap (λ x. o + x) (position_or_len_is (is_delim d) (drop o bytes) (e - o) 0 (omega (arith, length-drop o bytes))
      (λ k h. ap (λ x. eqb x d) (get_or-drop o bytes k 0) ∙ none (o + k) (omega arith) (omega arith))
      (λ h. ap (λ x. eqb x d) (get_or-drop o bytes (e - o) 0)
      ∙ ap (λ x. eqb (get_or bytes x 0) d) same
      ∙ there (omega (arith, length-drop o bytes))))
      ∙ same

  pub piece_is_range : (o : ℕ) → piece bytes d o ≡ slice_range bytes o (piece_end bytes d o)
  unfolding piece piece_end
  piece_is_range o = grind arith

  pub length-piece : (o : ℕ) → o + length (piece bytes d o) ≡ piece_end bytes d o
  unfolding piece piece_end
  length-piece o = grind (arith, common_steps)

  -- from each offset in a piece on, its rest is the piece
  pub end_same : (o k : ℕ)
      → o ≤ length bytes → o ≤ k → k ≤ piece_end bytes d o → piece_end bytes d k ≡ piece_end bytes d o
  end_same o k h l m =
      end_is k (piece_end bytes d o) m (end_within o h) (λ j p q. inside_piece o j (omega arith) q) (λ q. at_end o h q)

  pub piece_at_end : (o : ℕ) → piece_end bytes d o ≡ o → piece bytes d o ≡ []
  piece_at_end o e = nil_of (piece bytes d o) (omega (arith, length-piece o))
    where
      nil_of : (xs : List ℕ) → length xs ≡ 0 → xs ≡ []
      nil_of [] z = refl
      nil_of (x ∷ xs) z = absurd (omega arith)

  pub piece_more : (o : ℕ)
      → o < piece_end bytes d o → o < length bytes → piece bytes d o ≡ get_or bytes o 0 ∷ piece bytes d (o + 1)
  piece_more o h l =
      let same = end_same o (o + 1) (omega arith) (omega arith) (omega arith) in
      let e : piece_end bytes d o - o ≡ suc (piece_end bytes d o - (o + 1)) = omega arith in
      piece_is_range o
      ∙ ap (λ n. take n (drop o bytes)) e
      ∙ ap (take (suc (piece_end bytes d o - (o + 1)))) (drop_more bytes o 0 l)
      ∙ ap (λ n. get_or bytes o 0 ∷ take (n - (o + 1)) (drop (o + 1) bytes)) (sym same)
      ∙ ap (λ xs. get_or bytes o 0 ∷ xs) (sym (piece_is_range (o + 1)))

  -- ---- where a whole piece begins
  pub start_after_delim : (o : ℕ) → eqb (get_or bytes o 0) d ≡ true → piece_start bytes d (suc o) ≡ suc o
  unfolding piece_start
  start_after_delim o h = cond-true _ _ _ h

  pub start_more : (o : ℕ) → eqb (get_or bytes o 0) d ≡ false → piece_start bytes d (suc o) ≡ piece_start bytes d o
  unfolding piece_start
  start_more o h = cond-false _ _ _ h

  start_plus : (o n : ℕ) → o + n ≤ piece_end bytes d o → piece_start bytes d (o + n) ≡ piece_start bytes d o
  start_plus o zero h = let e : o + 0 ≡ o = omega arith in ap (piece_start bytes d) e
  start_plus o (suc n) h =
      let e : o + suc n ≡ suc (o + n) = omega arith in
      ap (piece_start bytes d) e
      ∙ start_more (o + n) (inside_piece o (o + n) (omega arith) (omega arith))
      ∙ start_plus o n (omega arith)

  pub start_same : (o k : ℕ) → o ≤ k → k ≤ piece_end bytes d o → piece_start bytes d k ≡ piece_start bytes d o
  start_same o k h l = let e : o + (k - o) ≡ k = omega arith in
      ap (piece_start bytes d) (sym e) ∙ start_plus o (k - o) (omega arith)

  pub start_next : (o : ℕ)
      → o ≤ length bytes → piece_end bytes d o < length bytes
      → piece_start bytes d (piece_end bytes d o + 1) ≡ piece_end bytes d o + 1
  start_next o h l =
      let e : piece_end bytes d o + 1 ≡ suc (piece_end bytes d o) = omega arith in
      ap (piece_start bytes d) e ∙ start_after_delim (piece_end bytes d o) (at_end o h l) ∙ sym e

  -- the whole piece around its own start begins there
  pub start_of_start : (o : ℕ) → piece_start bytes d (piece_start bytes d o) ≡ piece_start bytes d o
  unfolding piece_start
  start_of_start zero = refl
  start_of_start (suc o) = grind (arith, start_of_start o)

  -- a delimiter stands before the start of a whole piece
  pub delim_before : (o : ℕ) → piece_start bytes d (suc o) ≡ suc o → eqb (get_or bytes o 0) d ≡ true
  delim_before o h = ⊎_elim
      (λ (e : eqb (get_or bytes o 0) d ≡ true). e)
      (λ (e : eqb (get_or bytes o 0) d ≡ false). absurd (omega (arith, start_more o e, h, start_to bytes d o)))
      (cases_Bool (eqb (get_or bytes o 0) d))

  -- a whole piece begins after a delimiter
  pub start_after : (q p : ℕ) → q < p → eqb (get_or bytes q 0) d ≡ true → q < piece_start bytes d p
  start_after q zero l z = absurd (omega arith)
  start_after q (suc o) l z = ⊎_elim
      (λ (e : eqb (get_or bytes o 0) d ≡ true). omega (arith, start_after_delim o e))
      (λ (e : eqb (get_or bytes o 0) d ≡ false). ⊎_elim
      (λ (m : q < o). omega (arith, start_more o e, start_after q o m z))
      (λ (m : o ≤ q). let same : o ≡ q = omega arith in
      absurd (both_ways _ (ap (λ k. eqb (get_or bytes k 0) d) (sym same) ∙ e) z))
      (cases_lt q o))
      (cases_Bool (eqb (get_or bytes o 0) d))

  -- it depends on the bytes before the offset only
  pub start_of_front : (o p : ℕ) → o ≤ p → piece_start (take p bytes) d o ≡ piece_start bytes d o
  unfolding piece_start
  start_of_front zero p l = refl
  start_of_front (suc o) p l = rw (get_or-take p bytes o 0 (omega arith), start_of_front o p (omega arith)) refl

  -- a piece ends before the next one begins
  pub end_before : (k s : ℕ) → k < s → piece_start bytes d s ≡ s → piece_end bytes d k < s
  end_before k zero l h = absurd (omega arith)
  end_before k (suc o) l h = ⊎_elim
      (λ (m : o < piece_end bytes d k). absurd (both_ways _ (inside_piece k o (omega arith) m) (delim_before o h)))
      (λ (m : piece_end bytes d k ≤ o). omega arith)
      (cases_lt o (piece_end bytes d k))
