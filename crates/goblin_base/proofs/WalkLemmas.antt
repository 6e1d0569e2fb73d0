-- The plain walk, entry by entry and offset by offset.
--
-- The offset after an entry passes the test of `is_entry_place` if the entry's offset does (`entry_place_next`), and
-- none between the two passes it (`inside_entry`). So the entries of the walk are those of the offsets that pass it,
-- each tested for itself (`entries_closed`). Inside a piece no other whole piece begins (`no_bad_start_inside`), so
-- strict mode, which tests each piece from its start, fails where `first_bad` says (`first_bad_is`).
use Rattle.goblin_base.proofs.Common.{common_steps, ◌≡◌, ℕ, zero, suc, ◌+◌, ◌-◌, ◌<◌, ◌≤◌, ⊎_elim, true, false, List}
use Rattle.goblin_base.proofs.Common.{[], ◌∷◌, map, length, refl, sym, ap, ◌∙◌, arith, cases_lt, cond-true, cond-false}
use Rattle.goblin_base.proofs.Common.{lt-ltb, le-ltb, eq-eqb, both_ways, and_parts, and_from, not-true}
use Rattle.goblin_base.proofs.Common.{false_from_ne_true, not_from_true, not_from_false, and_right}
use Rattle.goblin_base.proofs.Common.{length-range_with_len, get_or-range_with_len, position_or_len_is}
use Rattle.goblin_base.proofs.Common.{is_utf8-from_IsUtf8, IsUtf8-nil, filter, range_with_len, is_utf8, piece_end}
use Rattle.goblin_base.proofs.Common.{piece, piece_start, is_readable, entry_text, entries_from, entries}
use Rattle.goblin_base.proofs.Common.{is_entry_place, is_bad_start, first_bad, ◌++◌, Ok, Err, append-nil, slice_range}
use Rattle.goblin_base.proofs.Common.{IsUtf8, walked, invalid_utf8, ParseMode, Strict, Permissive, IsTrue}
use Rattle.goblin_base.specs.Pieces.{walk_within, none_readable, entries_by_place}
use Rattle.goblin_base.proofs.PiecesLemmas.{end_from, end_same, length-piece, piece_at_end, start_to, start_same}
use Rattle.goblin_base.proofs.PiecesLemmas.{start_next, end_within, piece_is_range}
use Rattle.goblin_base.proofs.TextTests.{not_utf8}

module _ (bytes : List ℕ) (d : ℕ) where
  -- the offset after an entry
  abbrev pub next_place : ℕ → ℕ
  next_place i = i + length (entry_text bytes d i) + 1

  -- a larger bound on the number of entries changes nothing
  within_more : (n m i : ℕ)
      → length bytes - i ≤ n → length bytes - i ≤ m → walk_within n bytes d i ≡ walk_within m bytes d i
  within_more zero zero i p q = refl
  within_more zero (suc m) i p q = sym (cond-false _ _ _ (le-ltb i (length bytes) (omega arith)))
  within_more (suc n) zero i p q = cond-false _ _ _ (le-ltb i (length bytes) (omega arith))
  within_more (suc n) (suc m) i p q = grind (arith, within_more n m (next_place i) (omega arith) (omega arith))

  pub entries_more : (i : ℕ)
      → i < length bytes → entries_from bytes d i ≡ (i, entry_text bytes d i) ∷ entries_from bytes d (next_place i)
  unfolding entries_from
  entries_more i h = grind (arith, within_more)

  pub entries_past : (i : ℕ) → length bytes ≤ i → entries_from bytes d i ≡ []
  unfolding entries_from
  entries_past i h = let e : length bytes - i ≡ 0 = omega arith in ap (λ k. walk_within k bytes d i) e

  pub text_if_readable : (i : ℕ) → is_readable bytes d i ≡ true → entry_text bytes d i ≡ piece bytes d i
  unfolding entry_text
  text_if_readable i h = cond-true _ _ _ h

  pub text_if_not : (i : ℕ) → is_readable bytes d i ≡ false → entry_text bytes d i ≡ []
  unfolding entry_text
  text_if_not i h = cond-false _ _ _ h

  pub next_if_readable : (i : ℕ) → is_readable bytes d i ≡ true → next_place i ≡ piece_end bytes d i + 1
  next_if_readable i h = ap (λ t. i + length t + 1) (text_if_readable i h) ∙ ap (λ n. n + 1) (length-piece bytes d i)

  pub next_if_not : (i : ℕ) → is_readable bytes d i ≡ false → next_place i ≡ i + 1
  next_if_not i h = let e : i + 0 + 1 ≡ i + 1 = omega arith in ap (λ t. i + length t + 1) (text_if_not i h) ∙ e

  pub entries_more_readable : (i : ℕ)
      → i < length bytes → is_readable bytes d i ≡ true
      → entries_from bytes d i ≡ (i, piece bytes d i) ∷ entries_from bytes d (piece_end bytes d i + 1)
  entries_more_readable i h r = grind (arith, entries_more, text_if_readable, next_if_readable)

  pub entries_more_bad : (i : ℕ)
      → i < length bytes → is_readable bytes d i ≡ false
      → entries_from bytes d i ≡ (i, []) ∷ entries_from bytes d (i + 1)
  entries_more_bad i h r = grind (arith, entries_more, text_if_not)

  -- the empty piece is UTF-8
  pub readable_at_end : (i : ℕ) → piece_end bytes d i ≡ i → is_readable bytes d i ≡ true
  unfolding is_readable
  readable_at_end i e = ap is_utf8 (piece_at_end bytes d i e) ∙ is_utf8-from_IsUtf8 [] IsUtf8-nil

  -- offsets that aren't readable come before the end of their piece
  pub bad_within : (o p : ℕ)
      → p ≤ length bytes → ((q : ℕ) → o ≤ q → q < p → is_readable bytes d q ≡ false) → o ≤ length bytes
      → p ≤ piece_end bytes d o
  bad_within o p l none h = ⊎_elim
      (λ (x : piece_end bytes d o < p). absurd (both_ways _ (none (piece_end bytes d o) (end_from bytes d o) x)
      (readable_at_end _ (end_same bytes d o (piece_end bytes d o) h (end_from bytes d o) (omega arith)))))
      (λ (x : p ≤ piece_end bytes d o). x)
      (cases_lt (piece_end bytes d o) p)

  -- ---- none of some offsets is readable
  pub none_from : (o k : ℕ)
      → ((q : ℕ) → o ≤ q → q < o + k → is_readable bytes d q ≡ false) → none_readable bytes d o k ≡ true
  unfolding none_readable
  none_from o zero h = refl
  none_from o (suc k) h = grind (arith, none_from (o + 1) k (λ q p r. h q (omega arith) (omega arith)))

  pub none_at : (o k : ℕ)
      → none_readable bytes d o k ≡ true → (q : ℕ) → o ≤ q → q < o + k → is_readable bytes d q ≡ false
  unfolding none_readable
  none_at o zero h q p r = absurd (omega arith)
  none_at o (suc k) h q p r = let parts = and_parts _ _ h in ⊎_elim
      (λ (l : o < q). none_at (o + 1) k parts.1 q (omega arith) (omega arith))
      (λ (l : q ≤ o). let e : q ≡ o = omega arith in ap (is_readable bytes d) e ∙ not-true _ parts.0)
      (cases_lt o q)

  -- ---- offsets of entries
  pub entry_place_from : (p : ℕ)
      → ((q : ℕ) → piece_start bytes d p ≤ q → q < p → is_readable bytes d q ≡ false) → is_entry_place bytes d p ≡ true
  unfolding is_entry_place
  entry_place_from p h = none_from _ _ (λ q l r. h q l (omega (arith, start_to bytes d p)))

  pub entry_place_at : (p : ℕ)
      → is_entry_place bytes d p ≡ true → (q : ℕ) → piece_start bytes d p ≤ q → q < p → is_readable bytes d q ≡ false
  unfolding is_entry_place
  entry_place_at p h q l r = none_at _ _ h q l (omega (arith, start_to bytes d p))

  pub no_entry_place : (p q : ℕ)
      → piece_start bytes d p ≤ q → q < p → is_readable bytes d q ≡ true → is_entry_place bytes d p ≡ false
  no_entry_place p q l r h = false_from_ne_true _ (λ e. both_ways _ (entry_place_at p e q l r) h)

  -- no offset inside an entry's text is one, nor that of the delimiter after it
  pub inside_entry : (i q : ℕ) → i < q → q < next_place i → is_entry_place bytes d q ≡ false
  inside_entry i q l h = grind (arith, start_same, next_if_readable, no_entry_place, start_to, next_if_not)

  ruleset next_places = (next_if_readable, next_if_not, start_next)

  -- the offset after an entry is one
  pub entry_place_next : (i : ℕ)
      → is_entry_place bytes d i ≡ true → next_place i < length bytes → is_entry_place bytes d (next_place i) ≡ true
  entry_place_next i h l =
      grind (arith, next_places, entry_place_from, readable_at_end, end_from, start_same, entry_place_at)

  -- ---- the entries, offset by offset
  abbrev pub entry_at : ℕ → ℕ × List ℕ
  entry_at p = (p, entry_text bytes d p)

  abbrev from_places : ℕ → ℕ → List (ℕ × List ℕ)
  from_places i k = map entry_at (filter (is_entry_place bytes d) (range_with_len i k))

  -- offsets without an entry are skipped
  skipped : (i n k : ℕ)
      → ((q : ℕ) → i ≤ q → q < i + n → is_entry_place bytes d q ≡ false) → n ≤ k
      → from_places i k ≡ from_places (i + n) (k - n)
  skipped i zero k h l = grind arith
  skipped i (suc n) zero h l = absurd (omega arith)
  skipped i (suc n) (suc k) h l =
      grind (arith, skipped (i + 1) n k (λ q p r. h q (omega arith) (omega arith)) (omega arith))

  walk_by_place : (k i : ℕ)
      → length bytes - i ≤ k → (i < length bytes → is_entry_place bytes d i ≡ true)
      → walk_within k bytes d i ≡ from_places i (length bytes - i)
  walk_by_place zero i l h = let e : 0 ≡ length bytes - i = omega arith in ap (from_places i) e
  walk_by_place (suc k) i l h = ⊎_elim
      (λ (m : i < length bytes).
      let rest = length bytes - i - 1 in
      let e : suc rest ≡ length bytes - i = omega arith in
      let deeper = walk_by_place k (next_place i) (omega arith) (entry_place_next i (h m)) in
      let over : from_places (i + 1) rest ≡ from_places (next_place i) (length bytes - next_place i) = ⊎_elim
      (λ (f : length (entry_text bytes d i) < rest).
      let p : i + 1 + length (entry_text bytes d i) ≡ next_place i = omega arith in
      let q : rest - length (entry_text bytes d i) ≡ length bytes - next_place i = omega arith in
      skipped (i + 1) (length (entry_text bytes d i)) rest
      (λ x y z. inside_entry i x (omega arith) (omega arith)) (omega arith)
      ∙ ap (λ x. from_places x (rest - length (entry_text bytes d i))) p ∙ ap (from_places (next_place i)) q)
      (λ (f : rest ≤ length (entry_text bytes d i)).
      let q : rest - rest ≡ 0 = omega arith in
      let r : 0 ≡ length bytes - next_place i = omega arith in
      skipped (i + 1) rest rest (λ x y z. inside_entry i x (omega arith) (omega arith)) (omega arith)
      ∙ ap (from_places (i + 1 + rest)) q ∙ ap (from_places (next_place i)) r)
      (cases_lt (length (entry_text bytes d i)) rest) in
      cond-true _ _ _ (lt-ltb i (length bytes) m) ∙ ap (λ x. entry_at i ∷ x) (deeper ∙ sym over)
      ∙ sym (ap (map entry_at) (cond-true _ _ _ (h m))) ∙ ap (from_places i) e)
      (λ (m : length bytes ≤ i). let e : 0 ≡ length bytes - i = omega arith in
      cond-false _ _ _ (le-ltb i (length bytes) m) ∙ ap (from_places i) e)
      (cases_lt i (length bytes))

  -- the closed form: the walk's entries are those of the offsets that pass the test
  pub entries_closed : entries bytes d ≡ entries_by_place bytes d
  unfolding entries_from entries_by_place
  entries_closed = grind (arith, walk_by_place, entry_place_from)

  -- ---- where strict mode fails
  pub bad_start_from : (i : ℕ)
      → piece_start bytes d i ≡ i → is_readable bytes d i ≡ false → is_bad_start bytes d i ≡ true
  unfolding is_bad_start
  bad_start_from i e r = and_from _ _ (eq-eqb _ _ e) (not_from_false _ r)

  pub no_bad_start_readable : (i : ℕ) → is_readable bytes d i ≡ true → is_bad_start bytes d i ≡ false
  unfolding is_bad_start
  no_bad_start_readable i r = and_right _ _ (not_from_true _ r)

  pub no_bad_start_inside : (i q : ℕ) → i < q → q ≤ piece_end bytes d i → is_bad_start bytes d q ≡ false
  unfolding is_bad_start
  no_bad_start_inside i q l h = grind (arith, start_same, start_to)

  pub first_bad_is : (i : ℕ)
      → i ≤ length bytes → ((k : ℕ) → k < i → is_bad_start bytes d k ≡ false)
      → (i < length bytes → is_bad_start bytes d i ≡ true)
      → first_bad bytes d ≡ i
  unfolding first_bad
  first_bad_is i l none there =
      let n = length-range_with_len 0 (length bytes) in
      position_or_len_is (is_bad_start bytes d) (range_with_len 0 (length bytes)) i 0 (omega (arith, n))
      (λ k h. ap (is_bad_start bytes d)
      (get_or-range_with_len 0 (length bytes) k 0 (omega arith) ∙ (let e : 0 + k ≡ k = omega arith in e))
      ∙ none k h)
      (λ h. ap (is_bad_start bytes d)
      (get_or-range_with_len 0 (length bytes) i 0 (omega (arith, n)) ∙ (let e : 0 + i ≡ i = omega arith in e))
      ∙ there (omega (arith, n)))

-- ---- what the walk has found when it comes to an offset
-- The piece at i, if it is UTF-8, is the next entry of the definition (`entry_of_text`), so the entries so far and
-- those from there on stay all entries (`found_more`). While each piece was text, no bad piece begins before i: so a
-- piece at i that isn't text is the first bad one, where strict mode fails (`walked_fault`).

module _ (bytes : List ℕ) (d : ℕ) where
  pub readable_from_text : (i e : ℕ)
      → e ≡ piece_end bytes d i → IsUtf8 (slice_range bytes i e) → is_readable bytes d i ≡ true
  unfolding is_readable
  readable_from_text i e same u = grind (arith, piece_is_range, is_utf8-from_IsUtf8)

  pub bad_from_fault : (i e : ℕ)
      → e ≡ piece_end bytes d i → ¬ (IsUtf8 (slice_range bytes i e)) → is_readable bytes d i ≡ false
  unfolding is_readable
  bad_from_fault i e same u = ap is_utf8 (piece_is_range bytes d i ∙ ap (slice_range bytes i) (sym same)) ∙ not_utf8 _ u

  pub text_from_readable : (i e : ℕ)
      → e ≡ piece_end bytes d i → is_readable bytes d i ≡ true → is_utf8 (slice_range bytes i e) ≡ true
  unfolding is_readable
  text_from_readable i e same r = ap is_utf8 (ap (slice_range bytes i) same ∙ sym (piece_is_range bytes d i)) ∙ r

  -- the entry of a piece that is UTF-8, and those after it
  pub entry_of_text : (i e : ℕ) (t : List ℕ)
      → i < length bytes → e ≡ piece_end bytes d i → t ≡ slice_range bytes i e → is_readable bytes d i ≡ true
      → entries_from bytes d i ≡ (i, t) ∷ entries_from bytes d (e + 1)
  entry_of_text i e t l same is r = grind (arith, entries_more_readable, piece_is_range)

  -- the entries so far and those from i on are all entries
  abbrev pub IsFoundSoFar : List (ℕ × List ℕ) → ℕ → Type 0
  IsFoundSoFar es i = es ++ entries_from bytes d i ≡ entries bytes d

  pub found_more : (es fs : List (ℕ × List ℕ)) (e : ℕ × List ℕ) (i j : ℕ)
      → fs ≡ es ++ e ∷ [] → entries_from bytes d i ≡ e ∷ entries_from bytes d j → IsFoundSoFar es i → IsFoundSoFar fs j
  found_more es fs e i j same step h = grind (arith, common_steps)

  pub found_all : (es : List (ℕ × List ℕ)) (i : ℕ) → length bytes ≤ i → IsFoundSoFar es i → es ≡ entries bytes d
  found_all es i l h = sym (append-nil es) ∙ ap (λ x. es ++ x) (sym (entries_past bytes d i l)) ∙ h

  -- each whole piece before i is UTF-8, and a whole piece begins at i
  pub record IsTextSoFar (i : ℕ) : Type 0 where
    pub no_bad_start : (k : ℕ) → k < i → k < length bytes → is_bad_start bytes d k ≡ false
    pub starts : i < length bytes → piece_start bytes d i ≡ i

  pub text_so_far_none : IsTextSoFar 0
  unfolding piece_start
  text_so_far_none = record { no_bad_start = λ k h l. absurd (omega arith); starts = λ h. refl }

  pub text_so_far_more : (i : ℕ)
      → i < length bytes → is_readable bytes d i ≡ true → IsTextSoFar i → IsTextSoFar (piece_end bytes d i + 1)
  text_so_far_more i l r h = grind (arith, no_bad_start_inside, no_bad_start_readable, start_next)

  -- if the first piece isn't UTF-8, the walk is still at its start
  pub nothing_passed : (i : ℕ) → is_readable bytes d 0 ≡ false → IsTextSoFar i → (i ≡ 0) × (0 < length bytes)
  unfolding piece_start
  nothing_passed i r h = grind (arith, readable_at_end, end_within, bad_start_from)

  pub bad_here : (i : ℕ) → i < length bytes → is_readable bytes d i ≡ false → IsTextSoFar i → first_bad bytes d ≡ i
  bad_here i l r h =
      first_bad_is bytes d i (omega arith) (λ k m. h.no_bad_start k m (omega arith))
      (λ _. bad_start_from bytes d i (h.starts l) r)

  pub walked_fault : (i : ℕ)
      → i < length bytes → is_readable bytes d i ≡ false → IsTextSoFar i
      → walked Strict bytes d ≡ Err (invalid_utf8 (length bytes - i))
  unfolding walked
  walked_fault i l r h = grind (arith, bad_here)

  pub walked_all : (mode : ParseMode) (i : ℕ)
      → length bytes ≤ i → (mode ≡ Strict → IsTextSoFar i) → walked mode bytes d ≡ Ok (entries bytes d)
  unfolding walked
  walked_all mode i l h = grind (arith, first_bad_is)

pub strict_if_not_permissive : (mode : ParseMode) → (mode ≡ Permissive → IsTrue false) → mode ≡ Strict
strict_if_not_permissive mode h = grind arith
