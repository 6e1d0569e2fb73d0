-- From ranges and walks to string tables.
--
-- The table of a range is defined in steps that can fail. Where the range is cut out, it is the table of these bytes
-- (`strtab_in_range`); where the walk succeeds, it has all entries (`walked_entries`). A look-up in it is the one in
-- the bytes, because its entries are theirs (`look_up_among`).
use Rattle.goblin_base.proofs.Common.{common_steps, ◌≡◌, ℕ, ◌+◌, ◌-◌, ◌≤◌, Bool, true, false, drop, List, [], length}
use Rattle.goblin_base.proofs.Common.{get_or, sym, ap, subst, ◌∙◌, ◌<◌, ⊎_elim, not, arith, Option, None, Result, Ok}
use Rattle.goblin_base.proofs.Common.{cases_lt, cond-true, cond-false, lt-ltb, le-ltb, length-take-le, take_rest}
use Rattle.goblin_base.proofs.Common.{prefix_len-le-length, EachIndex, before_first, position_or_len, position, Bor}
use Rattle.goblin_base.proofs.Common.{unwrap_or, option_map, MatchOption, IsCharBoundary, ParseMode, entry_text}
use Rattle.goblin_base.proofs.Common.{entries, text_at, places_of, text_of, IsLastUpTo, Refusal, malformed, ◌>>=◌}
use Rattle.goblin_base.proofs.Common.{refuse_as, StringTable, look_up, range_in, strtab_of, table_of, walked, zero, suc}
use Rattle.goblin_base.proofs.Common.{◌∷◌, take, Some, drop-drop, drop-take, length-map, IsUtf8-from_is_utf8}
use Rattle.goblin_base.proofs.Common.{is_utf8-from_IsUtf8, slice_range, IsUtf8, place_of, piece_end, piece, is_readable}
use Rattle.goblin_base.proofs.Common.{entries_from, is_entry_place}
use Rattle.goblin_base.proofs.WalkLemmas.{entries_past, next_place, entries_more, entry_place_next, entry_place_from}
use Rattle.goblin_base.proofs.WalkLemmas.{no_entry_place, text_if_readable, text_if_not}
use Rattle.std.proofs.lemmas.Str.{IsUtf8-drop, IsCharBoundary-from_drop}
use Rattle.goblin_base.proofs.PiecesLemmas.{end_same, length-piece, piece_is_range, start_same, start_to}

-- ---- a look-up among the entries is the look-up in the bytes
-- The entry that follows the last one at or before an offset begins after the offset (`entry_at`). If the last one's
-- piece is UTF-8, the offset is in it, and the piece at the offset is the rest of it (`piece_rest`), which is UTF-8
-- exactly if a character begins there. Otherwise the entry is empty and stands at the offset itself (`looked_up`).

module _ (bytes : List ℕ) (d : ℕ) where
  -- the entry with index k of es: its offset, its text, and the offset of the next one
  pub record IsEntry (es : List (ℕ × List ℕ)) (k : ℕ) : Type 0 where
    pub within : get_or (places_of es) k 0 < length bytes
    pub place : is_entry_place bytes d (get_or (places_of es) k 0) ≡ true
    pub text : text_of (get_or es k (0, [])) ≡ entry_text bytes d (get_or (places_of es) k 0)
    pub next : k + 1 < length es → get_or (places_of es) (k + 1) 0 ≡ next_place bytes d (get_or (places_of es) k 0)
    pub last : k + 1 ≡ length es → length bytes ≤ next_place bytes d (get_or (places_of es) k 0)

  first_place : (i : ℕ) → i < length bytes → get_or (places_of (entries_from bytes d i)) 0 0 ≡ i
  first_place i l = ap (λ es. get_or (places_of es) 0 0) (entries_more bytes d i l)

  some_entry : (i : ℕ) → i < length bytes → 0 < length (entries_from bytes d i)
  some_entry i l = let e = ap length (entries_more bytes d i l) in omega (arith, e)

  entry_at_front : (i : ℕ)
      → i < length bytes → is_entry_place bytes d i ≡ true
      → IsEntry ((i, entry_text bytes d i) ∷ entries_from bytes d (next_place bytes d i)) 0
  entry_at_front i l h = grind (arith, first_place, entries_past, some_entry)

  entry_after : (e : ℕ × List ℕ) (es : List (ℕ × List ℕ)) (k : ℕ) → IsEntry es k → IsEntry (e ∷ es) (suc k)
  entry_after e es k h = grind arith

  pub entry_from : (k i : ℕ)
      → (i < length bytes → is_entry_place bytes d i ≡ true) → k < length (entries_from bytes d i)
      → IsEntry (entries_from bytes d i) k
  entry_from zero i h l = ⊎_elim
      (λ (m : i < length bytes). subst (λ es. IsEntry es 0) (sym (entries_more bytes d i m)) (entry_at_front i m (h m)))
      (λ (m : length bytes ≤ i). absurd (omega (arith, ap length (entries_past bytes d i m))))
      (cases_lt i (length bytes))
  entry_from (suc k) i h l = ⊎_elim
      (λ (m : i < length bytes). subst (λ es. IsEntry es (suc k)) (sym (entries_more bytes d i m))
      (entry_after _ _ k
      (entry_from k (next_place bytes d i) (entry_place_next bytes d i (h m))
      (omega (arith, ap length (entries_more bytes d i m))))))
      (λ (m : length bytes ≤ i). absurd (omega (arith, ap length (entries_past bytes d i m))))
      (cases_lt i (length bytes))

  pub entry_at : (k : ℕ) → k < length (entries bytes d) → IsEntry (entries bytes d) k
  entry_at k l = entry_from k 0 (λ _. entry_place_from bytes d 0 (λ q p r. absurd (omega arith))) l

  -- the rest of a piece from an offset in it is the piece there
  pub piece_rest : (p o : ℕ)
      → p ≤ length bytes → p ≤ o → o ≤ piece_end bytes d p → drop (o - p) (piece bytes d p) ≡ piece bytes d o
  piece_rest p o w l m =
      let e = piece_end bytes d p in
      let n : (o - p) + (e - o) ≡ e - p = omega arith in
      let s : p + (o - p) ≡ o = omega arith in
      ap (drop (o - p)) (piece_is_range bytes d p ∙ ap (λ x. take x (drop p bytes)) (sym n))
      ∙ drop-take (o - p) (e - o) (drop p bytes)
      ∙ ap (take (e - o)) (drop-drop (o - p) p bytes ∙ ap (λ x. drop x bytes) s)
      ∙ ap (λ x. slice_range bytes o x) (sym (end_same bytes d p o w l m)) ∙ sym (piece_is_range bytes d o)

  pub text_at_readable : (o : ℕ)
      → o < length bytes → is_readable bytes d o ≡ true → text_at bytes d o ≡ Some (piece bytes d o)
  unfolding text_at
  text_at_readable o l r = cond-true _ _ _ (lt-ltb o (length bytes) l) ∙ cond-true _ _ _ r

  text_at_bad : (o : ℕ)
      → o < length bytes → is_readable bytes d o ≡ false → is_entry_place bytes d o ≡ true → text_at bytes d o ≡ Some []
  unfolding text_at
  text_at_bad o l r h = cond-true _ _ _ (lt-ltb o (length bytes) l) ∙ cond-false _ _ _ r ∙ cond-true _ _ _ h

  pub text_at_inside : (o : ℕ)
      → o < length bytes → is_readable bytes d o ≡ false → is_entry_place bytes d o ≡ false → text_at bytes d o ≡ None
  unfolding text_at
  text_at_inside o l r h = cond-true _ _ _ (lt-ltb o (length bytes) l) ∙ cond-false _ _ _ r ∙ cond-false _ _ _ h

  pub text_at_past : (o : ℕ) → length bytes ≤ o → text_at bytes d o ≡ None
  unfolding text_at
  text_at_past o l = cond-false _ _ _ (le-ltb o (length bytes) l)

  readable_is : (o : ℕ) → IsUtf8 (piece bytes d o) → is_readable bytes d o ≡ true
  unfolding is_readable
  readable_is o u = is_utf8-from_IsUtf8 _ u

  readable_utf8 : (o : ℕ) → is_readable bytes d o ≡ true → IsUtf8 (piece bytes d o)
  unfolding is_readable
  readable_utf8 o r = IsUtf8-from_is_utf8 _ r

  -- the look-up at o, if p is the offset of the last entry at or before o
  pub record IsLookUp (p o : ℕ) : Type 0 where
    pub at_boundary : IsCharBoundary (entry_text bytes d p) (o - p)
        → text_at bytes d o ≡ Some (drop (o - p) (entry_text bytes d p))
    pub inside : ¬ (IsCharBoundary (entry_text bytes d p) (o - p)) → text_at bytes d o ≡ None

  ruleset readings = (text_if_readable, readable_utf8, text_at_readable, readable_is)

  ruleset cuts = (piece_rest, IsUtf8-drop, IsCharBoundary-from_drop, length-piece)

  pub looked_up : (p o : ℕ)
      → is_entry_place bytes d p ≡ true → p ≤ o → o < next_place bytes d p → o < length bytes → IsLookUp p o
  looked_up p o h l m n =
      grind (arith, readings, cuts, text_at_inside, no_entry_place, start_same, start_to, text_if_not, text_at_bad)

  -- the binary search finds the entry that a look-up needs
  pub found_look_up : (o k : ℕ)
      → o < length bytes → IsLastUpTo (places_of (entries bytes d)) o k
      → IsLookUp (get_or (places_of (entries bytes d)) k 0) o
  found_look_up o k l found =
      let same = length-map (entries bytes d) place_of in
      let entry = entry_at k (omega (arith, found.within, same)) in
      looked_up _ o entry.place found.at_or_before (⊎_elim
      (λ (m : k + 1 < length (entries bytes d)).
      omega (arith, found.last (k + 1) (omega arith) (omega (arith, same)), entry.next m))
      (λ (m : length (entries bytes d) ≤ k + 1). omega (arith, entry.last (omega (arith, found.within, same))))
      (cases_lt (k + 1) (length (entries bytes d)))) l

  -- at least one entry is at or before each offset
  pub not_all_after : (o : ℕ)
      → 0 < length bytes
      → ¬ (EachIndex (places_of (entries bytes d)) (λ k. o < get_or (places_of (entries bytes d)) k 0))
  not_all_after o l h = grind (arith, some_entry, length-map, first_place)

  -- the result of a look-up, from the text t of the entry at p
  pub answered : (r : Option (Bor (List ℕ))) (p o : ℕ) (t : List ℕ)
      → IsLookUp p o → t ≡ entry_text bytes d p
      → MatchOption r (¬ (IsCharBoundary t (o - p))) (λ x. IsCharBoundary t (o - p) × (x.now ≡ drop (o - p) t))
      → option_map (λ s. s.now) r ≡ text_at bytes d o
  answered r p o t h e m = grind arith

  pub entry_text_at : (o k : ℕ)
      → IsLastUpTo (places_of (entries bytes d)) o k
      → text_of (get_or (entries bytes d) k (0, [])) ≡ entry_text bytes d (get_or (places_of (entries bytes d)) k 0)
  entry_text_at o k found = (entry_at k (omega (arith, found.within, length-map (entries bytes d) place_of))).text

-- ---- from ranges and walks to string tables

pub look_up_past : (t : StringTable) (o : ℕ) → length t.bytes ≤ o → look_up t o ≡ None
look_up_past t o h = grind (arith, text_at_past)

pub walked_entries : (mode : ParseMode) (bytes : List ℕ) (d : ℕ) (es : List (ℕ × List ℕ))
    → walked mode bytes d ≡ Ok es → es ≡ entries bytes d
unfolding walked
walked_entries mode bytes d es h = grind arith

-- no bytes have no entries
pub no_entries : (bytes : List ℕ) (d : ℕ) → bytes ≡ [] → entries bytes d ≡ []
no_entries bytes d e = entries_past bytes d 0 (omega (arith, ap length e))

pub none_walked : (mode : ParseMode) (bytes : List ℕ) (d : ℕ) → bytes ≡ [] → walked mode bytes d ≡ Ok []
unfolding walked
none_walked mode bytes d e = grind (arith, no_entries)

pub ruleset empties = (no_entries, none_walked)

-- the table of a range, from the result of cutting the range
pub strtab_by : (mode : ParseMode) (file : List ℕ) (o n d : ℕ) (range : Result (List ℕ) Refusal)
    → refuse_as malformed (range_in mode file o n) ≡ range
    → strtab_of mode file o n d ≡ (range >>= (λ b. table_of mode b d))
unfolding strtab_of
strtab_by mode file o n d range e = ap (λ r. r >>= (λ b. table_of mode b d)) e

-- it is the table of the range's bytes
pub strtab_in_range : (mode : ParseMode) (file : List ℕ) (o n d : ℕ) (range : List ℕ)
    → range_in mode file o n ≡ Ok range → strtab_of mode file o n d ≡ table_of mode range d
strtab_in_range mode file o n d range e = strtab_by mode file o n d (Ok range) (ap (refuse_as malformed) e)

-- the whole file is a range
pub whole_range : (mode : ParseMode) (file : List ℕ) → range_in mode file 0 (length file) ≡ Ok file
unfolding range_in
whole_range mode file = grind (arith, common_steps)

-- so the table of the whole file is that of its bytes
pub whole_table : (mode : ParseMode) (file : List ℕ) (d : ℕ)
    → strtab_of mode file 0 (length file) d ≡ table_of mode file d
whole_table mode file d = strtab_in_range mode file 0 (length file) d file (whole_range mode file)

pub ruleset wholes = (whole_range, whole_table)

-- the index of the first delimiter, or the length
pub first_or_length : (t : ℕ → Bool) (xs : List ℕ) → unwrap_or (position t xs) (length xs) ≡ position_or_len t xs
first_or_length t xs = grind (arith, prefix_len-le-length)

-- the length of a piece is the index of the first delimiter, or the length of the rest
pub length-before_first : (t : ℕ → Bool) (xs : List ℕ) → length (before_first t xs) ≡ position_or_len t xs
length-before_first t xs = length-take-le (position_or_len t xs) xs (prefix_len-le-length (λ b. not (t b)) xs)

pub ruleset rests = (first_or_length, length-before_first, take_rest)

-- a look-up in a table that was parsed
module _ (bytes : List ℕ) (d : ℕ) (is_parsed : Bool) (t : StringTable) (es : List (ℕ × List ℕ)) (o : ℕ)
    (is : record { bytes = bytes; delim = d; is_parsed = is_parsed } ≡ t) (parsed : is_parsed ≡ true)
    (walked_is : es ≡ entries bytes d) (l : o < length bytes) where
  look_up_is : text_at bytes d o ≡ look_up t o
  look_up_is = sym (cond-true is_parsed (text_at bytes d o) None parsed) ∙ ap (λ x. look_up x o) is

  -- at least one entry is at or before the offset
  pub look_up_some : EachIndex (places_of es) (λ k. o < get_or (places_of es) k 0) → ⊥
  look_up_some h =
      not_all_after bytes d o (omega arith)
      (subst (λ x. EachIndex (places_of x) (λ k. o < get_or (places_of x) k 0)) walked_is h)

  -- the result is the rest of the last one's text
  pub look_up_among : (k place from : ℕ) (text : List ℕ) (r : Option (Bor (List ℕ)))
      → IsLastUpTo (places_of es) o k × (place ≡ get_or (places_of es) k 0) → text ≡ text_of (get_or es k (0, []))
      → MatchOption r (¬ (IsCharBoundary text from)) (λ x. IsCharBoundary text from × (x.now ≡ drop from text))
      → from ≡ o - place
      → option_map (λ s. s.now) r ≡ look_up t o
  look_up_among k place from text r last text_is rest from_is =
      let found : IsLastUpTo (places_of (entries bytes d)) o k =
      subst (λ x. IsLastUpTo (places_of x) o k) walked_is last.0 in
      let at : place ≡ get_or (places_of (entries bytes d)) k 0 =
      last.1 ∙ ap (λ x. get_or (places_of x) k 0) walked_is in
      let whole : text ≡ entry_text bytes d place =
      text_is
      ∙ ap (λ x. text_of (get_or x k (0, []))) walked_is
      ∙ entry_text_at bytes d o k found
      ∙ ap (entry_text bytes d) (sym at) in
      answered bytes d r place o text
      (subst (λ p. IsLookUp bytes d p o) (sym at) (found_look_up bytes d o k l found)) whole
      (subst (λ f. MatchOption r (¬ (IsCharBoundary text f)) (λ x. IsCharBoundary text f × (x.now ≡ drop f text)))
      from_is rest)
      ∙ look_up_is
