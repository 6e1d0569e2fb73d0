-- Notes: the note that bytes are read as, and the notes of a range (System V gABI, "Note Section").
use Rattle.std.specs.Prelude.{◌+◌, ◌-◌, ◌==◌, ◌||◌, max, ℕ, zero, suc, nat_le, if◌then◌else◌, List, [], ◌∷◌, length}
use Rattle.std.specs.Prelude.{◌≡◌, ◌≢◌, ◌<◌, ◌≤◌, ◌⊎◌, take, drop, Option, Some, None, Result, Ok, Err}
use Rattle.goblin.specs.Common.{next_multiple_of, Ctx, Endian, Error, read_within, Refusal, bad_offset, malformed}
use Rattle.goblin.specs.Common.{misplaced, refusal_of, room_of, ◌>>=◌, refuse_if, refuse_as, nhdr32_of, nhdr32_size}
use Rattle.goblin.specs.Common.{Nhdr32, Note, NotePlaces}
use Rattle.goblin_base.specs.declared.error.Fault.TheVariants.{NoteAlign}
use Rattle.goblin_base.specs.Refusal.{too_big}
use Rattle.goblin_base.specs.Utf8.{text_or_fault}
use Rattle.goblin.specs.declared.elf.note.NotePart.{NotePart}
use Rattle.goblin.specs.declared.elf.note.NotePart.TheVariants.{Header, Name, Desc}
use Rattle.goblin.specs.declared.elf.note.NoteRefusal.{NoteRefusal}

-- the parts of a note: its type, its name without the last byte, and its descriptor
pub record NoteParts : Type 0 where
  pub n_type : ℕ
  pub name : List ℕ
  pub desc : List ℕ

-- the parts of a note whose name and descriptor are borrowed
abbrev pub parts_of : Note → NoteParts
parts_of n = record { n_type = n.n_type; name = n.name.now; desc = n.desc.now }

-- the same, with the size of the note
abbrev pub note_and_len : Note × ℕ → NoteParts × ℕ
note_and_len p = (parts_of p.0, p.1)

-- the alignment of notes: one below 4 counts as 4, and any other than 4 and 8 is refused
abbrev pub note_align : ℕ → Result ℕ Refusal
note_align alignment =
    let align = max alignment 4 in
    if (align == 4) || (align == 8) then Ok align else Err (malformed (NoteAlign align))

-- `size` bytes from an offset on, or the fault of `room`
abbrev pub bytes_at : List ℕ → ℕ → ℕ → Result (List ℕ) Refusal
bytes_at bytes place size = do
  _ ← refuse_as misplaced (room_of (length bytes) place size)
  Ok (take size (drop place bytes))

-- `size` bytes from an offset on that must be UTF-8, or else the refusal
abbrev pub utf8_at : List ℕ → ℕ → ℕ → Result (List ℕ) Refusal
utf8_at bytes place size = do
  text ← bytes_at bytes place size
  text_or_fault text (length bytes - place)

-- The offsets and sizes of the parts of a note with a header; offsets count from the note's start. The name follows the
-- header. Its size includes the closing byte, unless it is 0. The descriptor starts at the next multiple of the
-- alignment, and the next note at the next multiple after the descriptor.
abbrev pub note_places : ℕ → Nhdr32 → NotePlaces
note_places align header =
    let desc = next_multiple_of (nhdr32_size + header.n_namesz) align in
    record {
      n_type = header.n_type;
      name = nhdr32_size;
      name_size = header.n_namesz - 1;
      desc = desc;
      desc_size = header.n_descsz;
      next = next_multiple_of (desc + header.n_descsz) align;
    }

-- the places of the note at the start of some bytes, which must hold its name, in UTF-8, and its descriptor
unfoldable pub read_places : ℕ → Endian → List ℕ → Result NotePlaces Refusal
read_places alignment order bytes = do
  align ← note_align alignment
  header ← refuse_as refusal_of (read_within nhdr32_size (nhdr32_of order) bytes)
  places ← Ok (note_places align header)
  _ ← utf8_at bytes places.name places.name_size
  _ ← bytes_at bytes places.desc places.desc_size
  Ok places

-- a part of a note that the bytes don't hold, or none where the alignment is refused, and the refusal
pub record PartRefusal : Type 0 where
  pub part : Option NotePart
  pub refusal : Refusal

abbrev pub of_part : {X : Type 0} → Option NotePart → Result X Refusal → Result X PartRefusal
of_part part (Ok x) = Ok x
of_part part (Err refusal) = Err (record { part = part; refusal = refusal })

-- the same of the program's error
abbrev pub with_part : {X : Type 0} → Option NotePart → Result X Error → Result X NoteRefusal
with_part part (Ok x) = Ok x
with_part part (Err e) = Err (record { part = part; error = e })

-- the places of the parts of a note with a header, with all of its name: the closing byte belongs to it
abbrev pub whole_note_places : ℕ → Nhdr32 → NotePlaces
whole_note_places align header = record (note_places align header) { name_size = header.n_namesz }

-- the places of the whole note at the start of some bytes, which must hold its header, its name and its descriptor; the
-- name need not be UTF-8
unfoldable pub whole_places : ℕ → Endian → List ℕ → Result NotePlaces PartRefusal
whole_places alignment order bytes = do
  align ← of_part None (note_align alignment)
  header ← of_part (Some Header) (refuse_as refusal_of (read_within nhdr32_size (nhdr32_of order) bytes))
  places ← Ok (whole_note_places align header)
  _ ← of_part (Some Name) (bytes_at bytes places.name places.name_size)
  _ ← of_part (Some Desc) (bytes_at bytes places.desc places.desc_size)
  Ok places

-- a result is the expected one, an error too
abbrev pub FindsParts : Result NotePlaces NoteRefusal → Result NotePlaces PartRefusal → Type 0
FindsParts (Ok places) expected = expected ≡ Ok places
FindsParts (Err e) expected = expected ≡ Err (record { part = e.part; refusal = refusal_of e.error })

-- the note in some bytes at these places
abbrev pub note_there : List ℕ → NotePlaces → NoteParts
note_there bytes places = record {
  n_type = places.n_type;
  name = take places.name_size (drop places.name bytes);
  desc = take places.desc_size (drop places.desc bytes);
}

-- the note at the start of some bytes, and its size, which may exceed the bytes
unfoldable pub read_note : ℕ → Endian → List ℕ → Result (NoteParts × ℕ) Refusal
read_note alignment order bytes = do
  places ← read_places alignment order bytes
  Ok (note_there bytes places, places.next)

-- the places of the note at an offset, which must be before the bytes' end
unfoldable pub places_at : List ℕ → ℕ → ℕ × Ctx → Result NotePlaces Refusal
places_at bytes offset ctx = do
  _ ← refuse_if (nat_le (length bytes) offset) (bad_offset offset)
  read_places ctx.0 ctx.1.le (drop offset bytes)

-- the note there, and its size
unfoldable pub note_at : List ℕ → ℕ → ℕ × Ctx → Result (NoteParts × ℕ) Refusal
note_at bytes offset ctx = do
  places ← places_at bytes offset ctx
  Ok (note_there (drop offset bytes) places, places.next)

-- a refusal is the last item, and after a note come the items from its end on
abbrev pub item_and_rest : Result (NoteParts × ℕ) Refusal
    → (ℕ → List (Result NoteParts Refusal)) → List (Result NoteParts Refusal)
item_and_rest (Ok note) rest = Ok note.0 ∷ rest note.1
item_and_rest (Err refusal) rest = Err refusal ∷ []

-- the items of a range, of which at most so many bytes are read
abbrev pub items_within : ℕ → List ℕ → ℕ → ℕ → ℕ × Ctx → List (Result NoteParts Refusal)
items_within zero bytes size offset ctx = []
items_within (suc k) bytes size offset ctx =
    if nat_le size offset then []
    else item_and_rest (note_at bytes offset ctx) (λ len. items_within k bytes size (offset + len) ctx)

-- the items of the range from an offset up to `size`: none from `size` on; else the note at the offset and then the
-- items from its end on; or its refusal as the last item
unfoldable pub note_items : List ℕ → ℕ → ℕ → ℕ × Ctx → List (Result NoteParts Refusal)
note_items bytes size offset ctx = items_within (size - offset) bytes size offset ctx

-- which alignments and headers of notes are refused, in plain numbers, and as what; an alignment is about no part
pub record NotesRefused (alignment : ℕ) (order : Endian) (bytes : List ℕ) : Type 0 where
  pub align : 4 < alignment → alignment ≢ 8
      → (read_places alignment order bytes ≡ Err (malformed (NoteAlign alignment)))
      × (whole_places alignment order bytes ≡ Err (record { part = None; refusal = malformed (NoteAlign alignment) }))
  pub header : (alignment ≤ 4) ⊎ (alignment ≡ 8) → 0 < length bytes → length bytes < 12
      → (read_places alignment order bytes ≡ Err (too_big 12 (length bytes)))
      × (whole_places alignment order bytes ≡ Err (record { part = Some Header; refusal = too_big 12 (length bytes) }))
