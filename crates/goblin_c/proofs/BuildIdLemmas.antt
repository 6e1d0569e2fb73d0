-- The build ID is looked for note by note, and then header by header.
--
-- What is left to look at has the same first build ID as all that there was, and as many notes less as were read. So it
-- is of the notes of a range, by the note at an offset (`notes_at`), and of those of headers, by the header at an index
-- (`at_holder`, `at_notes`).
use Rattle.goblin_c.proofs.Common.{GoblinHeader, GoblinRange, List, None, Ok, Option, Result, Some, [], ap, arith}
use Rattle.goblin_c.proofs.Common.{drop, get_or_from_slice_get, length, length-take, nat_tests, refl, slice_get}
use Rattle.goblin_c.proofs.Common.{slice_get_within, suc, take, zero, ℕ, ◌++◌, ◌+◌, ◌-◌, ◌<◌, ◌∷◌, ◌≡◌, ◌≤◌}
use Rattle.goblin_c.specs.BuildId.{Seek, first_build_id, note_and_rest, notes_of, whole_notes}
use Rattle.goblin_c.specs.{Common.GoblinNote, Common.GoblinRefusal, Notes.whole_note}
use Rattle.std.proofs.Common.{MatchOption, length-append}
use Rattle.std.proofs.{Math.Seq.take-nil, lemmas.List.drop_more}
use Rattle.std.specs.Option.{option_or}

module _ (bytes : List ℕ) (h : GoblinHeader) (range : GoblinRange) (alignment : ℕ) where
  -- the notes from an offset on, by the note there
  pub notes_at : (left offset : ℕ)
      → 0 < left
      → whole_notes left bytes h range alignment offset
      ≡ note_and_rest (whole_note bytes h range alignment offset) (whole_notes (left - 1) bytes h range alignment)
  notes_at zero offset some = absurd (omega arith)
  notes_at (suc left) offset some =
      let same : suc left - 1 ≡ left = omega arith in
      rw same refl

  -- the first so many notes of a range are the first so many of more
  fewer : (left most offset : ℕ)
      → left ≤ most
      → take left (whole_notes most bytes h range alignment offset) ≡ whole_notes left bytes h range alignment offset
  fewer zero most offset within = refl
  fewer (suc left) zero offset within = absurd (omega arith)
  fewer (suc left) (suc most) offset within =
      grind (arith, take-nil {A = Result GoblinNote GoblinRefusal} left, fewer left most)

-- the first so many items of a list and another
take_both : {X : Type 0} (left more : ℕ) (xs ys : List X)
    → more ≡ left - length xs → take left (xs ++ ys) ≡ take left xs ++ take more ys
take_both (suc left) more (x ∷ xs) ys is = grind (arith, take_both left more xs ys)
take_both (suc left) more [] ys is = ap (λ n. take n ys) {x = suc left} {y = more} (omega arith)
take_both zero more xs ys is = grind arith

-- what ends a search among notes ends it if others follow them; else these are searched
first_of_both : (bytes : List ℕ) (xs ys : List (Result GoblinNote GoblinRefusal))
    → first_build_id bytes (xs ++ ys) ≡ option_or (first_build_id bytes xs) (first_build_id bytes ys)
first_of_both bytes (Ok note ∷ xs) ys = grind (arith, nat_tests, first_of_both bytes xs ys)
first_of_both bytes xs ys = grind arith

-- the headers from an index on, by the header there
pub at_holder : {X : Type 0} (all : List X) (i : ℕ) (holder : X)
    → slice_get all i ≡ Some holder → drop i all ≡ holder ∷ drop (i + 1) all
at_holder all i holder there =
    grind (arith, slice_get_within all i holder, get_or_from_slice_get all i holder holder, drop_more all i holder)

module _ (bytes : List ℕ) (h : GoblinHeader) (most left : ℕ) (all : List (Option (GoblinRange × ℕ))) (i : ℕ)
    (within : left ≤ most) (range : GoblinRange) (alignment : ℕ)
    (there : slice_get all i ≡ Some (Some (range, alignment))) where
  holder_and_rest : let own = whole_notes left bytes h range alignment range.offset in
      let others = notes_of most bytes h (drop (i + 1) all) in
      (take left (notes_of most bytes h (drop i all)) ≡ own ++ take (left - length own) others)
      × (length own ≤ left)
  holder_and_rest =
      let own = whole_notes most bytes h range alignment range.offset in
      let same = fewer bytes h range alignment left most range.offset within in
      let both = take_both left (left - length own) own (notes_of most bytes h (drop (i + 1) all)) refl in
      let at = at_holder all i (Some (range, alignment)) there in
      grind (arith, nat_tests, at, same, both, length-take left own)

  -- a search in the notes of the header at an index ends the search in all, or it goes on with the next header
  pub at_notes : (seen : Option (Result GoblinRange GoblinRefusal) × ℕ)
      → Seek bytes (whole_notes left bytes h range alignment range.offset) left seen
      → let rest = take left (notes_of most bytes h (drop i all)) in
      let next = take seen.1 (notes_of most bytes h (drop (i + 1) all)) in
      MatchOption seen.0
      ((first_build_id bytes rest ≡ first_build_id bytes next) × (length rest + seen.1 ≡ left + length next))
      (λ x. first_build_id bytes rest ≡ Some x)
  at_notes (None, more) is =
      let own = whole_notes left bytes h range alignment range.offset in
      grind (arith, holder_and_rest, is.0, is.1 refl, first_of_both bytes own, length-append own)
  at_notes (Some x, more) is = grind (arith, holder_and_rest, is.0, first_of_both)
