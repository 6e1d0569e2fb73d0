-- The notes that iterators yield.
use Rattle.std.specs.Prelude.{◌≡◌, ◌+◌, ◌-◌, ◌≤◌, ℕ, nat_le, nat_lt, sum_by, if◌then◌else◌, List, [], ◌∷◌, ◌++◌, length}
use Rattle.std.specs.Prelude.{take, drop, flat_map, Option, Result, Ok, Err, IfOk, vec_capacity}
use Rattle.std.specs.Iterator.{YieldsFirstBy}
use Rattle.goblin.specs.Common.{div_ceil, position_or_len, Ctx, Endian, Error, Refusal, refusal_of, nhdr32_of}
use Rattle.goblin.specs.Common.{nhdr32_size, Note, NotePlaces}
use Rattle.goblin.specs.declared.elf.note.NoteDataIterator.{NoteDataIterator}
use Rattle.goblin.specs.declared.elf.note.NoteIterator.{NoteIterator}
use Rattle.goblin.specs.Note.{NoteParts, parts_of, places_at, note_at, note_items, item_and_rest, read_places}
use Rattle.goblin.specs.Note.{whole_places}

-- the parts of a note, or the refusal of an error
abbrev pub item_of : Result Note Error → Result NoteParts Refusal
item_of (Ok note) = Ok (parts_of note)
item_of (Err e) = Err (refusal_of e)

-- the items that a range of notes has left
abbrev pub items_left : NoteDataIterator → List (Result NoteParts Refusal)
items_left it = note_items it.bytes.now it.size it.offset it.ctx

-- at most as many items are left as headers fit into the range
abbrev pub most_left : NoteDataIterator → ℕ
most_left it = div_ceil (it.size - it.offset) nhdr32_size

-- the offset after a note, or the end of the range after a refusal
abbrev pub next_offset : Result (NoteParts × ℕ) Refusal → ℕ → ℕ → ℕ
next_offset (Ok note) size offset = offset + note.1
next_offset (Err refusal) size offset = size

-- the range after its next item: only its offset moves, and at the end not even that
abbrev pub after_next : NoteDataIterator → NoteDataIterator
after_next it =
    if nat_le it.size it.offset then it
    else record it { offset = next_offset (note_at it.bytes.now it.offset it.ctx) it.size it.offset }

-- the items that the ranges from the index on have left, one range after another
abbrev pub all_items_left : NoteIterator → List (Result NoteParts Refusal)
all_items_left it = flat_map items_left (drop it.index it.iters.items)

-- at most as many items are left as headers fit into these ranges
abbrev pub most_left_in : List NoteDataIterator → ℕ
most_left_in ranges = sum_by most_left ranges

-- the number of ranges, from the first one on, that have no item left
abbrev pub spent : List NoteDataIterator → ℕ
spent ranges = position_or_len (λ range. nat_lt range.offset range.size) ranges

-- the index of the range that has the next item
abbrev pub index_of_next : NoteIterator → ℕ
index_of_next it = it.index + spent (drop it.index it.iters.items)

-- the ranges after the next item of the first one
abbrev pub after_next_of_first : List NoteDataIterator → List NoteDataIterator
after_next_of_first [] = []
after_next_of_first (range ∷ ranges) = after_next range ∷ ranges

-- taking the next item of a range: it is the first that is left, and nothing else moves
abbrev pub TakesNote : NoteDataIterator → Option (Result Note Error) → NoteDataIterator → Type 0
TakesNote it item after = YieldsFirstBy item_of items_left it item after × (after ≡ after_next it)

-- taking the next item of ranges: it is the first that is left, and only the range that it comes from moves
abbrev pub TakesNoteOfRanges : NoteIterator → Option (Result Note Error) → NoteIterator → Type 0
TakesNoteOfRanges it item after =
    YieldsFirstBy item_of all_items_left it item after
    × (after.index ≡ index_of_next it)
    × (vec_capacity after.iters ≡ vec_capacity it.iters)
    × (after.iters.items
    ≡ take (index_of_next it) it.iters.items ++ after_next_of_first (drop (index_of_next it) it.iters.items))

-- the items of a range: none from its end on; else the note at its offset and the items from the note's end on, or the
-- refusal alone
abbrev pub NoteByNote : Type 0
NoteByNote =
    (bytes : List ℕ) (size offset : ℕ) (ctx : ℕ × Ctx)
    → note_items bytes size offset ctx
    ≡ (if nat_le size offset then []
    else item_and_rest (note_at bytes offset ctx) (λ len. note_items bytes size (offset + len) ctx))

-- the parts of the note at an offset lie inside the bytes; the next note starts at least a header after the offset, and
-- at most 7 bytes past the end
pub record LieWithin (size offset : ℕ) (places : NotePlaces) : Type 0 where
  pub name : offset + places.name + places.name_size ≤ size
  pub desc : offset + places.desc + places.desc_size ≤ size
  pub least : nhdr32_size ≤ places.next
  pub most : offset + places.next ≤ size + 7

-- the places of a note lie within the bytes that it is read from
abbrev pub PlacesLieWithin : Type 0
PlacesLieWithin =
    (bytes : List ℕ) (offset : ℕ) (ctx : ℕ × Ctx) → IfOk (places_at bytes offset ctx) (LieWithin (length bytes) offset)

-- a note that is read is also the whole note of the first bytes, if these hold its descriptor; only its name is longer,
-- by the byte that closes it
abbrev pub WholeIsNote : Type 0
WholeIsNote =
    (alignment : ℕ) (order : Endian) (bytes : List ℕ) (size : ℕ) (places : NotePlaces)
    → read_places alignment order bytes ≡ Ok places → places.desc + places.desc_size ≤ size
    → let name_size = (nhdr32_of order bytes).n_namesz in
    (places.name_size ≡ name_size - 1)
    × (whole_places alignment order (take size bytes) ≡ Ok (record places { name_size = name_size }))

-- the size of a note is at least its header's, and at most 7 more than the bytes'
abbrev pub NotesAdvance : Type 0
NotesAdvance =
    (bytes : List ℕ) (offset : ℕ) (ctx : ℕ × Ctx)
    → IfOk (note_at bytes offset ctx) (λ note. (nhdr32_size ≤ note.1) × (offset + note.1 ≤ length bytes + 7))

-- a range has at most as many items as headers fit into it
abbrev pub FewNotes : Type 0
FewNotes =
    (bytes : List ℕ) (size offset : ℕ) (ctx : ℕ × Ctx)
    → length (note_items bytes size offset ctx) ≤ div_ceil (size - offset) nhdr32_size

-- the items of ranges are those of each, one range after another: a refusal ends its own range alone
abbrev pub RangeByRange : Type 0
RangeByRange =
    (it : NoteIterator)
    → all_items_left it
    ≡ flat_map (λ range. note_items range.bytes.now range.size range.offset range.ctx) (drop it.index it.iters.items)
