-- The build ID of a file: the descriptor of the first note that is one, among those of the segments, and then of the
-- sections (System V gABI, "Note Section"; its type and name are GNU's).
use Rattle.goblin_c.specs.Common.{GoblinHeader, GoblinNote, GoblinRange, GoblinRefusal, ProgramHeader, SectionHeader}
use Rattle.goblin_c.specs.Common.{bytes_eq, refuse_as, ◌>>=◌}
use Rattle.goblin_c.specs.declared.build_id.Holders.TheVariants.{Sections, Segments}
use Rattle.goblin_c.specs.{Notes.whole_note, Results.refusal_converted, Sections.sections_expected}
use Rattle.goblin_c.specs.{Segments.segments_expected, declared.build_id.Holders.Holders}
use Rattle.std.specs.Prelude.{Bool, Err, List, None, Ok, Option, Result, Some, [], drop, if◌then◌else◌}
use Rattle.std.specs.Prelude.{length, map, suc, take, zero, ℕ, ◌&&◌, ◌++◌, ◌-◌, ◌==◌, ◌∷◌, ◌≡◌}

-- a note is a build ID: its type is 3, and its name "GNU", which a zero byte closes
abbrev pub is_build_id : List ℕ → GoblinNote → Bool
is_build_id bytes note =
    note.n_type == 3 && note.name.size == 3 && bytes_eq (take 4 (drop note.name.offset bytes)) (71 ∷ 78 ∷ 85 ∷ 0 ∷ [])

-- notes that are read one after another: none; this one, and those from its next offset on; or a refusal, the last
abbrev pub note_and_rest : Result (Option GoblinNote) GoblinRefusal
    → (ℕ → List (Result GoblinNote GoblinRefusal)) → List (Result GoblinNote GoblinRefusal)
note_and_rest (Ok None) rest = []
note_and_rest (Ok (Some note)) rest = Ok note ∷ rest note.next
note_and_rest (Err why) rest = Err why ∷ []

-- the first so many notes of a range from an offset on
abbrev pub whole_notes : ℕ → List ℕ → GoblinHeader → GoblinRange → ℕ → ℕ → List (Result GoblinNote GoblinRefusal)
whole_notes zero bytes h range alignment offset = []
whole_notes (suc most) bytes h range alignment offset =
    note_and_rest (whole_note bytes h range alignment offset) (whole_notes most bytes h range alignment)

-- the range of the notes of a segment and their alignment, and those of a section, if it holds notes
abbrev pub holder_of_segment : ProgramHeader → Option (GoblinRange × ℕ)
holder_of_segment s =
    if s.p_type == 4 then Some (record { offset = s.p_offset; size = s.p_filesz }, s.p_align) else None

abbrev pub holder_of_section : SectionHeader → Option (GoblinRange × ℕ)
holder_of_section s =
    if s.sh_type == 7 then Some (record { offset = s.sh_offset; size = s.sh_size }, s.sh_addralign) else None

-- so of each header
abbrev pub holders_in : Holders → List (Option (GoblinRange × ℕ))
holders_in (Segments all) = map holder_of_segment all
holders_in (Sections all) = map holder_of_section all

-- the notes of such ranges, one range after another, the first so many of each
abbrev pub notes_of : ℕ → List ℕ → GoblinHeader → List (Option (GoblinRange × ℕ))
    → List (Result GoblinNote GoblinRefusal)
notes_of most bytes h [] = []
notes_of most bytes h (None ∷ holders) = notes_of most bytes h holders
notes_of most bytes h (Some holder ∷ holders) =
    whole_notes most bytes h holder.0 holder.1 holder.0.offset ++ notes_of most bytes h holders

-- the descriptor of the first of some notes that is a build ID, or a refusal that is before it
abbrev pub first_build_id : List ℕ → List (Result GoblinNote GoblinRefusal) → Option (Result GoblinRange GoblinRefusal)
first_build_id bytes [] = None
first_build_id bytes (Err why ∷ notes) = Some (Err why)
first_build_id bytes (Ok note ∷ notes) =
    if is_build_id bytes note then Some (Ok note.desc) else first_build_id bytes notes

-- what was found, and else what another search finds
abbrev pub found_or : Option (Result GoblinRange GoblinRefusal)
    → Result (Option GoblinRange) GoblinRefusal → Result (Option GoblinRange) GoblinRefusal
found_or None other = other
found_or (Some (Ok range)) other = Ok (Some range)
found_or (Some (Err why)) other = Err why

-- the build ID among the first so many notes of the sections
abbrev pub id_of_sections : List ℕ → GoblinHeader → ℕ → Result (Option GoblinRange) GoblinRefusal
id_of_sections bytes h most = do
  sections ← refuse_as refusal_converted (sections_expected bytes h)
  found_or (first_build_id bytes (take most (notes_of 65536 bytes h (map holder_of_section sections)))) (Ok None)

-- the build ID among the first 65,536 notes of the segments, and then of the sections
abbrev pub build_id_expected : List ℕ → GoblinHeader → Result (Option GoblinRange) GoblinRefusal
build_id_expected bytes h = do
  segments ← refuse_as refusal_converted (segments_expected bytes h)
  let notes = take 65536 (notes_of 65536 bytes h (map holder_of_segment segments)) in
      found_or (first_build_id bytes notes) (id_of_sections bytes h (65536 - length notes))

-- What a search among so many notes finds: the first that ends it, and if there is none how many more may be read.
abbrev pub Seek : List ℕ → List (Result GoblinNote GoblinRefusal) → ℕ
    → Option (Result GoblinRange GoblinRefusal) × ℕ → Type 0
Seek bytes notes most found =
    (found.0 ≡ first_build_id bytes notes) × (found.0 ≡ None → found.1 ≡ most - length notes)
