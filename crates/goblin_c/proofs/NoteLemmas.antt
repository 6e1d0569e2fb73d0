-- Notes one by one are the items of their range.
--
-- What a call stores is one step of the definition of a range's items: the note at the offset, and the items from the
-- next offset on (`items_there`). So several calls, each at the offset that the last one stored, store as many items
-- (`in_a_row`). The parts of a note lie in the file because its places do (`notes_lie_in_file`).
use Rattle.goblin.specs.Note.{note_at, note_items, places_at, read_places}
use Rattle.goblin.specs.{NoteLaws.note_by_note, NoteLaws.whole_is_note, declared.elf.note.NotePlaces.NotePlaces}
use Rattle.goblin_c.proofs.Common.{GoblinHeader, GoblinRange, List, Ok, Some, arith, context_of, drop, fits-room_of}
use Rattle.goblin_c.proofs.Common.{length, length-drop, length-take, nat_tests, refl, suc, take, take_all, zero, ℕ, ◌+◌}
use Rattle.goblin_c.proofs.Common.{◌-◌, ◌<◌, ◌≡◌}
use Rattle.goblin_c.specs.Notes.{NotesAreItems, NotesAreText, NotesInARow, NotesLieInFile, WholeNotesAreNotes}
use Rattle.goblin_c.specs.Notes.{items_reported, note_converted, note_expected, note_utf8_expected, notes_reported}
use Rattle.goblin_c.specs.Notes.{parts_at, read_parts}
use Rattle.std.proofs.{Math.Seq.drop-drop, Math.Seq.take-nil, lemmas.Bool.lt-leb, lemmas.List.drop-take}
use Rattle.std.proofs.{lemmas.List.drop_all}
use Rattle.goblin_base.specs.declared.container.Endian.TheVariants as endian

-- the items from an offset on are those of which the call there stores the first
items_there : (bytes : List ℕ) (h : GoblinHeader) (range : GoblinRange) (alignment offset : ℕ)
    → note_items bytes (range.offset + range.size) offset (alignment, context_of h)
    ≡ items_reported bytes (note_utf8_expected bytes h range alignment offset)
    (λ next. note_items bytes (range.offset + range.size) next (alignment, context_of h))
unfolding note_at
items_there bytes h range alignment offset =
    grind (arith, nat_tests, note_by_note bytes (range.offset + range.size) offset (alignment, context_of h), drop-drop)

pub notes_are_items : NotesAreItems
notes_are_items notes h range alignment over = grind (arith, nat_tests, items_there)

-- one more call stores one more item
in_a_row : (calls : ℕ) (bytes : List ℕ) (h : GoblinHeader) (range : GoblinRange) (alignment offset : ℕ)
    → notes_reported calls bytes h range alignment offset
    ≡ take calls (note_items bytes (range.offset + range.size) offset (alignment, context_of h))
in_a_row zero bytes h range alignment offset = refl
in_a_row (suc calls) bytes h range alignment offset =
    grind (arith, items_there bytes h range alignment offset, take-nil, in_a_row calls bytes h range alignment)

pub notes_in_a_row : NotesInARow
notes_in_a_row calls notes h range alignment over = grind (arith, nat_tests, in_a_row)

-- the parts of a note that are read lie in the bytes
pub notes_lie_in_file : NotesLieInFile
unfolding parts_at read_parts
notes_lie_in_file bytes h range alignment offset note is = grind (arith, nat_tests, fits-room_of, length-drop)

-- a note with a name that is text is read alike
pub notes_are_text : NotesAreText
unfolding places_at parts_at read_places read_parts
notes_are_text = record {
  bytes = λ bytes h range alignment offset note is. grind (arith, nat_tests);
  text = λ bytes h range alignment offset note is text.
      grind (arith, nat_tests, text, λ (place : ℕ). drop-drop place offset bytes);
}

-- a note that is read at an offset is read from there on
pub whole_notes_are_notes : WholeNotesAreNotes
unfolding places_at
whole_notes_are_notes bytes h range alignment offset note is within =
    let n = range.offset + range.size - offset in
    let whole = whole_is_note alignment (context_of h).le (drop offset bytes) n in
    grind (arith, nat_tests, is, whole, drop-take offset n bytes)

pub usual_note_is : (bytes : List ℕ) (h : GoblinHeader) (range : GoblinRange) (alignment offset : ℕ)
    (places : NotePlaces) → (h.ei_data ≡ 2 → ⊥) → offset < length bytes → offset < range.offset + range.size
    → read_parts alignment endian.Little (take (length bytes - offset) (drop offset bytes)) ≡ Ok places
    → note_expected bytes h range alignment offset ≡ Ok (Some (note_converted offset places))
unfolding parts_at
usual_note_is bytes h range alignment offset places other there before is =
    grind (arith, nat_tests, lt-leb, length-drop, take_all)

pub ruleset note_laws =
    (notes_are_items, notes_in_a_row, notes_lie_in_file, whole_notes_are_notes, notes_are_text)

pub ruleset windows = (drop_all, length-drop, length-take, take_all)
