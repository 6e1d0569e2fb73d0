-- The first piece of a string table that is not UTF-8 contains the first fault.
use Rattle.goblin_text.proofs.Common.{common_steps, ◌≡◌, ◌≢◌, ◌∙◌, ℕ, zero, suc, ◌+◌, ◌-◌, ◌<◌, ◌≤◌, true, false, List}
use Rattle.goblin_text.proofs.Common.{[], ◌∷◌, length, get_or, take, drop, refl, sym, ap, subst, ⊎_elim, arith}
use Rattle.goblin_text.proofs.Common.{slice_range, Ok, Err, Result, if◌then◌else◌, ltb, cases_eq, cases_lt, eq-eqb}
use Rattle.goblin_text.proofs.Common.{false_from_ne_true, drop-take, drop_more, get_or-take, length-take-le, take-take}
use Rattle.goblin_text.proofs.Common.{IsCharBoundary-start, IsUtf8-drop, IsUtf8-from_is_utf8, IsUtf8-take}
use Rattle.goblin_text.proofs.Common.{is_utf8-from_IsUtf8, IsCharBoundary, IsUtf8, IsValidUpTo, Refusal, ◌>>=◌}
use Rattle.goblin_text.proofs.Common.{StringTable, table_of, walked, texts-join, invalid_utf8, Strict, text_table, lit<}
use Rattle.goblin_text.proofs.Common.{IsCharBoundary-after_ascii, encode, first_bad, piece, piece_start, table_of-text}
use Rattle.std.proofs.lemmas.Bool.{and_left, eqb-true, ne_eqb}
use Rattle.goblin.specs.Pieces.{entries, is_bad_start, is_readable, piece_end}
use Rattle.goblin_base.proofs.PiecesLemmas.{at_end, delim_before, end_before, end_from, piece_is_range, start_after}
use Rattle.goblin_base.proofs.PiecesLemmas.{start_of_front, start_of_start, start_to}
use Rattle.goblin_base.proofs.WalkLemmas.{bad_start_from, first_bad_is, no_bad_start_readable}

module _ (bytes : List ℕ) where
  zero_at_end : (o : ℕ)
      → o ≤ length bytes → piece_end bytes 0 o < length bytes → get_or bytes (piece_end bytes 0 o) 0 ≡ 0
  zero_at_end o l m = let e = at_end bytes 0 o l m in grind (arith, e)

  -- ---- pieces of a front that is text
  -- it may be cut where a piece begins
  boundary_at_start : (p o : ℕ)
      → p ≤ length bytes → IsUtf8 (take p bytes) → o ≤ p → piece_start bytes 0 o ≡ o → IsCharBoundary (take p bytes) o
  boundary_at_start p zero w front l h = IsCharBoundary-start (take p bytes) front
  boundary_at_start p (suc o) w front l h =
      let size = length-take-le p bytes w in
      let z : get_or (take p bytes) o 0 ≡ 0 =
      get_or-take p bytes o 0 (omega arith) ∙ eqb-true _ _ (delim_before bytes 0 o h) in
      let next : o + 1 ≡ suc o = omega arith in
      subst (IsCharBoundary (take p bytes)) next
      (IsCharBoundary-after_ascii (take p bytes) o front (omega (arith, size)) (omega (arith, z)))

  up_to_start : (p o : ℕ)
      → p ≤ length bytes → IsUtf8 (take p bytes) → o ≤ p → piece_start bytes 0 o ≡ o → IsUtf8 (take o bytes)
  up_to_start p o w front l h =
      subst IsUtf8 (take-take o p bytes l) (IsUtf8-take (take p bytes) o front (boundary_at_start p o w front l h))

  -- and where one ends
  up_to_end : (p o : ℕ)
      → p ≤ length bytes → IsUtf8 (take p bytes) → o ≤ length bytes → piece_end bytes 0 o ≤ p
      → IsUtf8 (take (piece_end bytes 0 o) bytes)
  up_to_end p o w front l m =
      let e = piece_end bytes 0 o in
      let size = length-take-le p bytes w in
      let at : IsCharBoundary (take p bytes) e = (
        omega (arith, size, m),
        λ short high.
            let z : get_or (take p bytes) e 0 ≡ 0 =
            get_or-take p bytes e 0 (omega (arith, short, size)) ∙ zero_at_end o l (omega (arith, short, size, w)) in
            absurd (omega (arith, z, high)),
      ) in
      subst IsUtf8 (take-take e p bytes m) (IsUtf8-take (take p bytes) e front at)

  -- so a piece that begins and ends in it is text
  readable_within : (p o : ℕ)
      → p ≤ length bytes → IsUtf8 (take p bytes) → piece_start bytes 0 o ≡ o → piece_end bytes 0 o ≤ p
      → is_readable bytes 0 o ≡ true
  unfolding is_readable
  readable_within p o w front h m =
      let e = piece_end bytes 0 o in
      let from : o ≤ e = end_from bytes 0 o in
      let head : IsUtf8 (take e bytes) = up_to_end p o w front (omega (arith, from, m, w)) m in
      let rest : IsUtf8 (drop o (take e bytes)) =
      IsUtf8-drop (take e bytes) o head (boundary_at_start e o (omega (arith, m, w)) head from h) in
      let len : e ≡ o + (e - o) = omega (arith, from) in
      let is : drop o (take e bytes) ≡ piece bytes 0 o =
      ap (λ n. drop o (take n bytes)) len ∙ drop-take o (e - o) bytes ∙ sym (piece_is_range bytes 0 o) in
      is_utf8-from_IsUtf8 _ (rw is at rest)

  no_bad_start : (p k : ℕ)
      → p ≤ length bytes → IsUtf8 (take p bytes) → piece_end bytes 0 k ≤ p → is_bad_start bytes 0 k ≡ false
  unfolding is_bad_start
  no_bad_start p k w front m = ⊎_elim
      (λ (e : piece_start bytes 0 k ≡ k). no_bad_start_readable bytes 0 k (readable_within p k w front e m))
      (λ (n : piece_start bytes 0 k ≢ k). and_left _ _ (ne_eqb _ _ n))
      (cases_eq (piece_start bytes 0 k) k)

  -- ---- the piece that a fault lies in
  -- a front that is text and a range that is, right after it
  front_more : (i j : ℕ) → i ≤ j → IsUtf8 (take i bytes) → IsUtf8 (slice_range bytes i j) → IsUtf8 (take j bytes)
  front_more i j l u v = let m : i - 0 ≡ i = omega arith in let n : j - 0 ≡ j = omega arith in
      subst (λ x. IsUtf8 (take x bytes)) n
      (texts-join bytes 0 i j (omega arith) l (subst (λ x. IsUtf8 (take x bytes)) (sym m) u) v)

  zero_is_text : (p : ℕ) → p < length bytes → get_or bytes p 0 ≡ 0 → IsUtf8 (slice_range bytes p (p + 1))
  unfolding encode
  zero_is_text p l z =
      let one : p + 1 - p ≡ 1 = omega arith in rw (one, drop_more bytes p 0 l, z) (0 ∷ [], (refl, refl))

  -- the fault stands before the end of the piece that it lies in
  fault_inside : (p : ℕ) → IsValidUpTo bytes p → p < piece_end bytes 0 (piece_start bytes 0 p)
  fault_inside p v =
      let s = piece_start bytes 0 p in
      let e = piece_end bytes 0 s in
      let to = start_to bytes 0 p in
      let from = end_from bytes 0 s in
      let z : e ≤ p → get_or bytes e 0 ≡ 0 =
      λ m. zero_at_end s (omega (arith, to, v.short)) (omega (arith, m, v.short)) in
      ⊎_elim
      (λ (l : p < e). l)
      (λ (m : e ≤ p). ⊎_elim
      (λ (l : e < p). absurd (omega (arith, from, start_after bytes 0 e p l (eq-eqb _ _ (z m)))))
      (λ (l : p ≤ e).
      let same : e ≡ p = omega arith in
      absurd (v.longest (p + 1) (omega arith)
      (front_more p (p + 1) (omega arith) v.front
      (zero_is_text p v.short (subst (λ x. get_or bytes x 0 ≡ 0) same (z m))))))
      (cases_lt e p))
      (cases_lt p e)

  fault_unreadable : (p : ℕ) → IsValidUpTo bytes p → is_readable bytes 0 (piece_start bytes 0 p) ≡ false
  unfolding is_readable
  fault_unreadable p v =
      let s = piece_start bytes 0 p in
      let e = piece_end bytes 0 s in
      let inside : p < e = fault_inside p v in
      let to = start_to bytes 0 p in
      let head : IsUtf8 (take s bytes) =
      up_to_start p s (omega (arith, v.short)) v.front to (start_of_start bytes 0 p) in
      false_from_ne_true _ (λ r.
      let text : IsUtf8 (slice_range bytes s e) = subst IsUtf8 (piece_is_range bytes 0 s) (IsUtf8-from_is_utf8 _ r) in
      v.longest e inside (front_more s e (end_from bytes 0 s) head text))

  first_bad_at : (p : ℕ) → IsValidUpTo bytes p → first_bad bytes 0 ≡ piece_start bytes 0 p
  first_bad_at p v =
      let s = piece_start bytes 0 p in
      let to = start_to bytes 0 p in
      first_bad_is bytes 0 s (omega (arith, to, v.short))
      (λ k l. no_bad_start p k (omega (arith, v.short)) v.front
      (omega (arith, to, end_before bytes 0 k s l (start_of_start bytes 0 p))))
      (λ _. bad_start_from bytes 0 s (start_of_start bytes 0 p) (fault_unreadable p v))

  -- it begins where the last string of the front does
  pub first_bad_of_front : (p : ℕ)
      → IsValidUpTo bytes p → first_bad bytes 0 ≡ piece_start (take p bytes) 0 (length (take p bytes))
  first_bad_of_front p v = grind (arith, length-take-le, first_bad_at, start_of_front)

  -- ---- the table
  -- what a strict walk returns whose first bad piece begins there
  walk_to : ℕ → Result StringTable Refusal
  walk_to first =
      (if ltb first (length bytes) then Err (invalid_utf8 (length bytes - first)) else Ok (entries bytes 0))
      >>= (λ _. Ok (text_table bytes))

  pub table_refused : (p : ℕ)
      → IsValidUpTo bytes p
      → table_of Strict bytes 0
      ≡ Err (invalid_utf8 (length bytes - piece_start (take p bytes) 0 (length (take p bytes))))
  unfolding walked walk_to
  table_refused p v = grind (arith, common_steps, first_bad_of_front, start_to)

  pub table_taken : IsUtf8 bytes → table_of Strict bytes 0 ≡ Ok (text_table bytes)
  table_taken u = table_of-text bytes 0 (lit< tt) Strict u

-- the first bytes of a range
pub front_of_range : (bytes : List ℕ) (i j p : ℕ)
    → p ≤ j - i → slice_range bytes i (i + p) ≡ take p (slice_range bytes i j)
front_of_range bytes i j p l = rw (take-take p (j - i) (drop i bytes) l) (ap (λ n. take n (drop i bytes)) (omega arith))
