-- Lemmas for reading notes and for the notes' iterators.
--
-- Reading at an offset is reading the rest of the bytes from there on. What holds of the items of a range follows from
-- one step of their definition (`note_by_note`): at the range's end there is none, and before it there is one, which is
-- the last if it is a refusal.
use Rattle.std.proofs.lemmas.Grind.{common_steps}
use Rattle.std.proofs.Common.{◌≡◌, ◌+◌, ◌-◌, ◌<◌, ◌≤◌, ℕ, min, List, [], ◌∷◌, length, take, drop, Result, Ok, Err, IfOk}
use Rattle.std.proofs.Common.{refl, ◌∙◌, arith, ◌++◌, get_or, set, sym, ap, add-one, drop-cons}
use Rattle.std.proofs.lemmas.Bool.{le-leb, lt-leb, lt-ltb}
use Rattle.std.proofs.lemmas.List.{take-set, drop-set, take-append-drop}
use Rattle.goblin_base.specs.declared.container.Ctx.{Ctx}
use Rattle.goblin_base.specs.declared.error.Error.{Error}
use Rattle.goblin_base.specs.Refusal.{Returns, Refusal, bad_offset}
use Rattle.goblin.specs.declared.elf.note.Note.{Note}
use Rattle.goblin.specs.declared.elf.note.NoteDataIterator.{NoteDataIterator}
use Rattle.goblin.specs.declared.elf.note.NotePlaces.{NotePlaces}
use Rattle.goblin.specs.Note.{NoteParts, parts_of, note_there, read_places, places_at, note_at, item_and_rest}
use Rattle.goblin.specs.Note.{note_items}
use Rattle.goblin.specs.Notes.{LieWithin, items_left, most_left, most_left_in, spent, after_next, after_next_of_first}
use Rattle.goblin.specs.NoteLaws.{at_ok, few_notes, note_by_note, notes_advance, places_lie_within}
use Rattle.std.proofs.Math.Nat.{min_comm}
use Rattle.std.specs.List.{flat_map}

-- before the end of the bytes, places are read from the rest
pub places_at-before : (bytes : List ℕ) (offset : ℕ) (ctx : ℕ × Ctx)
    → offset < length bytes
    → places_at bytes offset ctx ≡ read_places ctx.0 ctx.1.le (take (length bytes - offset) (drop offset bytes))
unfolding places_at
places_at-before bytes offset ctx before = grind (arith, common_steps)

-- from the end of the bytes on there are no places
pub places_at-past : (bytes : List ℕ) (offset : ℕ) (ctx : ℕ × Ctx)
    → length bytes ≤ offset → places_at bytes offset ctx ≡ Err (bad_offset offset)
unfolding places_at
places_at-past bytes offset ctx past = rw (le-leb (length bytes) offset past) refl

-- nor is there a note
pub note_at-past : (bytes : List ℕ) (offset : ℕ) (ctx : ℕ × Ctx)
    → length bytes ≤ offset → note_at bytes offset ctx ≡ Err (bad_offset offset)
unfolding note_at
note_at-past bytes offset ctx past = rw (places_at-past bytes offset ctx past) refl

-- what holds if a note and its places were read from an offset before the bytes' end
pub record IsRead (answer : Result (Note × NotePlaces) Error) (bytes : List ℕ) (offset : ℕ)
    (ctx : ℕ × Ctx) : Type 0 where
  pub places : Returns (λ found. found.1) answer (places_at bytes offset ctx)
  pub there : IfOk answer
      (λ found. parts_of found.0 ≡ note_there (take (length bytes - offset) (drop offset bytes)) found.1)

-- the note that was read is the one at the offset
pub note_at-read :
    (answer : Result (Note × NotePlaces) Error) (bytes : List ℕ) (offset : ℕ) (ctx : ℕ × Ctx)
    → IsRead answer bytes offset ctx
    → Returns (λ found. (parts_of found.0, found.1.next)) answer (note_at bytes offset ctx)
unfolding note_at
note_at-read answer bytes offset ctx is = grind (arith, common_steps)

-- its places lie inside the bytes
pub read-within : (answer : Result (Note × NotePlaces) Error) (bytes : List ℕ) (offset : ℕ) (ctx : ℕ × Ctx)
    → Returns (λ found. found.1) answer (places_at bytes offset ctx)
    → IfOk answer (λ found. LieWithin (length bytes) offset found.1)
read-within answer bytes offset ctx is = grind (arith, is, places_lie_within bytes offset ctx)

-- no item is left from the end of a range on
pub note_items-past : (bytes : List ℕ) (size offset : ℕ) (ctx : ℕ × Ctx)
    → size ≤ offset → note_items bytes size offset ctx ≡ []
note_items-past bytes size offset ctx past = note_by_note bytes size offset ctx ∙ rw (le-leb size offset past) refl

-- a note, and the items after it
pub note_items-note : (bytes : List ℕ) (size offset : ℕ) (ctx : ℕ × Ctx) (note : NoteParts × ℕ)
    → offset < size → note_at bytes offset ctx ≡ Ok note
    → note_items bytes size offset ctx ≡ Ok note.0 ∷ note_items bytes size (offset + note.1) ctx
note_items-note bytes size offset ctx note before is =
    note_by_note bytes size offset ctx ∙ rw (lt-leb size offset before, is) refl

-- a refusal, and nothing after it
pub note_items-refusal : (bytes : List ℕ) (size offset : ℕ) (ctx : ℕ × Ctx) (refusal : Refusal)
    → offset < size → note_at bytes offset ctx ≡ Err refusal
    → note_items bytes size offset ctx ≡ Err refusal ∷ note_items bytes size size ctx
note_items-refusal bytes size offset ctx refusal before is =
    note_by_note bytes size offset ctx
    ∙ rw (lt-leb size offset before, is, note_items-past bytes size size ctx (omega arith)) refl

-- before the end of a range there is an item
pub note_items-some : (bytes : List ℕ) (size offset : ℕ) (ctx : ℕ × Ctx)
    → offset < size → 0 < length (note_items bytes size offset ctx)
note_items-some bytes size offset ctx before =
    rw (note_by_note bytes size offset ctx, lt-leb size offset before) (one_at_least (note_at bytes offset ctx) _)
  where
    one_at_least : (answer : Result (NoteParts × ℕ) Refusal) (rest : ℕ → List (Result NoteParts Refusal))
        → 0 < length (item_and_rest answer rest)
    one_at_least answer rest = grind arith

-- a range has at most as many items left as headers fit into it
pub few_left : (it : NoteDataIterator) → length (items_left it) ≤ most_left it
few_left it = few_notes it.bytes.now it.size it.offset it.ctx

-- and at least one, before its end
pub some_left : (it : NoteDataIterator) → min 1 (most_left it) ≤ length (items_left it)
some_left it = grind (arith, note_items-some it.bytes.now it.size it.offset it.ctx)

pub ruleset no_notes = (places_at-past, note_at-past)

pub ruleset next_items = (note_items-past, note_items-refusal, at_ok, notes_advance)

pub ruleset items_bounds = (few_left, some_left, min_comm)

-- ---- the ranges of notes that an iterator goes through
-- A range yields an item exactly before its end (`unspent`, `at_end`). So a range that yields none doesn't change, and
-- the items after it are all that are left (`skipped`); one that yields an item is the only one that changes (`moved`).

-- a range with an item left is not at its end
pub unspent : (it : NoteDataIterator) (item : Result NoteParts Refusal) (rest : List (Result NoteParts Refusal))
    → items_left it ≡ item ∷ rest → it.offset < it.size
unspent it item rest is = grind (arith, note_items-past it.bytes.now it.size it.offset it.ctx)

-- and one without is
pub at_end : (it : NoteDataIterator) → items_left it ≡ [] → it.size ≤ it.offset
at_end it is = grind (arith, note_items-some it.bytes.now it.size it.offset it.ctx, ap length is)

-- a list with one element replaced
set_is : {X : Type 0} (xs : List X) (i : ℕ) (y : X) → i < length xs → set xs i y ≡ take i xs ++ (y ∷ drop (i + 1) xs)
set_is xs i y h = sym (take-append-drop i (set xs i y)) ∙ rw (take-set xs i y, drop-set xs i y h) refl

-- the rest of a list from an index on begins with the element at it
drop_is : {X : Type 0} (xs : List X) (i : ℕ) (x : X)
    → i < length xs → x ≡ get_or xs i x → drop i xs ≡ x ∷ drop (i + 1) xs
drop_is xs i x h is = drop-cons xs i x h ∙ rw (← is, add-one) refl

-- replacing an element by itself leaves the list
set_same : {X : Type 0} (xs : List X) (i : ℕ) (x : X) → i < length xs → x ≡ get_or xs i x → set xs i x ≡ xs
set_same xs i x h is = set_is xs i x h ∙ rw (← drop_is xs i x h is) (take-append-drop i xs)

-- the range that an item came from has moved
pub moved : (old now : List NoteDataIterator) (at i : ℕ) (x new : NoteDataIterator)
    → now ≡ old → i < length now → x ≡ get_or now i x → at ≡ i → new ≡ after_next x
    → set now i new ≡ take at old ++ after_next_of_first (drop at old)
moved old now at i x new same h is there moves = grind (arith, drop_is, set_is)

-- the first range with an item is the next one
pub next_is : (old : List NoteDataIterator) (i : ℕ) (x : NoteDataIterator)
    → i < length old → x ≡ get_or old i x → x.offset < x.size → spent (drop i old) ≡ 0
next_is old i x h is some = rw (drop_is old i x h is, lt-ltb x.offset x.size some) refl

-- a range without items is skipped, and doesn't change
pub record Skipped (old : List NoteDataIterator) (i : ℕ) (x : NoteDataIterator) : Type 0 where
  pub ranges : set old i (after_next x) ≡ old
  pub left : flat_map items_left (drop (i + 1) old) ≡ flat_map items_left (drop i old)
  pub most : most_left_in (drop (i + 1) old) ≡ most_left_in (drop i old)
  pub next : i + 1 + spent (drop (i + 1) old) ≡ i + spent (drop i old)

pub skipped : (old : List NoteDataIterator) (i : ℕ) (x : NoteDataIterator)
    → i < length old → x ≡ get_or old i x → items_left x ≡ [] → Skipped old i x
skipped old i x h is none = grind (arith, at_end, set_same, drop_is)
