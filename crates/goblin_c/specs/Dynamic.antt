-- The dynamic section: its range, its entries, the value of a tag, the range of its strings, and as an entry is put.
use Rattle.goblin_c.specs.Common.{Dyn, GoblinDyn, GoblinHeader, GoblinRange, Layout, Misfit, ProgramHeader}
use Rattle.goblin_c.specs.Common.{SectionHeader, option_map, refusal_of, refuse_as, ◌>>=◌}
use Rattle.goblin_c.specs.{File.context_of, Items.count_of, Items.first_item, Items.item_at, Numbers.LiesIn}
use Rattle.goblin_c.specs.{Numbers.range_expected, Puts.Put, Puts.misfit_from, Puts.put_at, Puts.put_if_there}
use Rattle.goblin_c.specs.{Results.RefusalAt, Results.refused_at, Sections.sections_expected}
use Rattle.goblin_c.specs.{Segments.segments_expected}
use Rattle.goblin_dynamic.specs.Dynamic.{dynamic_range, dynamic_section_range, entries_in, entries_up_to_null}
use Rattle.goblin_dynamic.specs.Dynamic.{first_value, strings_range, strings_section_range, whole_entries_in}
use Rattle.goblin_dynamic.specs.{Dyn.entry, Dyn.entry_layout, declared.dynamic.FileRange.FileRange}
use Rattle.std.specs.Prelude.{List, None, Ok, Option, Result, Some, [], drop, length, map, ℕ, ◌==◌, ◌∷◌, ◌≡◌, ◌≤◌}

-- an entry of the dynamic section for C
abbrev pub dyn_converted : Dyn → GoblinDyn
dyn_converted d = record { d_tag = d.d_tag; d_val = d.d_val }

-- a range from C, and one for C
abbrev pub file_range_of : GoblinRange → FileRange
file_range_of range = record { offset = range.offset; size = range.size }

abbrev pub range_converted : FileRange → GoblinRange
range_converted range = record { offset = range.offset; size = range.size }

-- a range, if there is one, which must lie in the file
abbrev pub range_in_file : List ℕ → Option FileRange → Result (Option GoblinRange) RefusalAt
range_in_file bytes (Some range) = range_expected bytes (range_converted range)
range_in_file bytes None = Ok None

-- what the segments say, or in a file without segments what the sections do
abbrev pub or_sections : {X : Type 0} → List ProgramHeader → X → (List SectionHeader → X)
    → Result (List SectionHeader) RefusalAt → Result X RefusalAt
or_sections (s ∷ segments) own other sections = Ok own
or_sections [] own other sections = do
  all ← sections
  Ok (other all)

-- the range of the dynamic section
abbrev pub dynamic_expected : List ℕ → GoblinHeader → Result (Option GoblinRange) RefusalAt
dynamic_expected bytes h = do
  segments ← segments_expected bytes h
  range ← or_sections segments (dynamic_range segments) dynamic_section_range (sections_expected bytes h)
  range_in_file bytes range

-- a list that has items, or none
abbrev pub unless_empty : {X : Type 0} → List X → Option (List X)
unless_empty [] = None
unless_empty (x ∷ xs) = Some (x ∷ xs)

-- the entries for C from an index on, before the next one of tag 0 (DT_NULL)
abbrev pub entries_left : List Dyn → ℕ → List GoblinDyn
entries_left entries first = map dyn_converted (entries_up_to_null (drop first entries))

-- all entries that lie in a range whole
abbrev pub whole_entries_expected : List ℕ → GoblinHeader → GoblinRange → Result (List Dyn) RefusalAt
whole_entries_expected bytes h range =
    refused_at range.offset (refuse_as refusal_of (whole_entries_in bytes (file_range_of range) (context_of h)))

-- those of a range from an index on, if there are some
abbrev pub entries_from_expected : List ℕ → GoblinHeader → GoblinRange → ℕ → Result (Option (List GoblinDyn)) RefusalAt
entries_from_expected bytes h range first = do
  entries ← whole_entries_expected bytes h range
  Ok (unless_empty (entries_left entries first))

-- the entry at an index of those that lie in a range whole
abbrev pub entry_expected : List ℕ → GoblinHeader → GoblinRange → ℕ → Result (Option Dyn) RefusalAt
entry_expected bytes h range index = item_at (whole_entries_expected bytes h range) index

-- the entries of a range before its first one of tag 0, as the library reads them
abbrev pub entries_expected : List ℕ → GoblinHeader → GoblinRange → Result (List Dyn) RefusalAt
entries_expected bytes h range =
    refused_at range.offset (refuse_as refusal_of (entries_in bytes (file_range_of range) (context_of h)))

-- how many these are
abbrev pub dynamic_count_expected : List ℕ → GoblinHeader → GoblinRange → Result (Option ℕ) RefusalAt
dynamic_count_expected bytes h range = count_of (entries_expected bytes h range)

-- the index and the value of the first of these with a tag, from an index on
abbrev pub dynamic_value_expected : List ℕ → GoblinHeader → GoblinRange → ℕ → ℕ → Result (Option (ℕ × ℕ)) RefusalAt
dynamic_value_expected bytes h range tag first = do
  entries ← entries_expected bytes h range
  Ok (first_item (λ d. d.d_val) (λ d. d.d_tag == tag) first entries)

-- the range of the strings, by the entries and the segments, or in a file without segments by the sections
abbrev pub dynamic_strings_expected : List ℕ → GoblinHeader → GoblinRange → Result (Option GoblinRange) RefusalAt
dynamic_strings_expected bytes h range = do
  entries ← entries_expected bytes h range
  segments ← segments_expected bytes h
  found ← or_sections segments (strings_range entries segments) strings_section_range (sections_expected bytes h)
  range_in_file bytes found

-- an entry of the dynamic section is put at an index of those that lie in the range whole
abbrev pub dyn_from_c : GoblinDyn → Dyn
dyn_from_c own = record { d_tag = own.d_tag; d_val = own.d_val }

abbrev pub dyn_layout_of : GoblinHeader → Layout Dyn
dyn_layout_of h = entry_layout (context_of h).container (context_of h).le

abbrev pub DynFits : GoblinHeader → GoblinDyn → Type 0
DynFits h d = (dyn_layout_of h).Fits (dyn_from_c d)

abbrev pub dyn_misfit : Dyn → Misfit
dyn_misfit d = misfit_from 0 ((entry 4).fields d)

abbrev pub dyn_put_expected : List ℕ → GoblinHeader → GoblinRange → ℕ → GoblinDyn → Option Misfit → Put
dyn_put_expected bytes h range index d misfit =
    put_if_there (entry_expected bytes h range index) (put_at (dyn_layout_of h) bytes range.offset index (dyn_from_c d)
    misfit)

-- the entries that are stored from an index on are those of the library's list, if it does not end before the index
abbrev pub EntriesAreListed : Type 0
EntriesAreListed =
    (bytes : List ℕ) (h : GoblinHeader) (range : GoblinRange) (first : ℕ) (entries : List Dyn)
    → entries_expected bytes h range ≡ Ok entries → first ≤ length entries
    → entries_from_expected bytes h range first ≡ Ok (unless_empty (map dyn_converted (drop first entries)))

-- the number that is stored is how many entries the library's list has
abbrev pub EntriesAreCounted : Type 0
EntriesAreCounted =
    (bytes : List ℕ) (h : GoblinHeader) (range : GoblinRange) (entries : List Dyn)
    → entries_expected bytes h range ≡ Ok entries
    → dynamic_count_expected bytes h range ≡ Ok (Some (length entries))

-- the value that is stored from index 0 on is the library's first one with the tag
abbrev pub ValueIsTheFirst : Type 0
ValueIsTheFirst =
    (bytes : List ℕ) (h : GoblinHeader) (range : GoblinRange) (tag : ℕ) (entries : List Dyn)
    → entries_expected bytes h range ≡ Ok entries
    → (dynamic_value_expected bytes h range tag 0 >>= λ found. Ok (option_map (λ p. p.1) found))
    ≡ Ok (first_value tag entries)

-- the ranges that are stored lie in the file
pub record DynamicLiesInFile : Type 0 where
  pub dynamic :
      (bytes : List ℕ) (h : GoblinHeader) (found : GoblinRange)
      → dynamic_expected bytes h ≡ Ok (Some found) → LiesIn bytes found
  pub strings :
      (bytes : List ℕ) (h : GoblinHeader) (range found : GoblinRange)
      → dynamic_strings_expected bytes h range ≡ Ok (Some found) → LiesIn bytes found
