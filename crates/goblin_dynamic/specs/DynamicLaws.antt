-- Laws of the dynamic section: what is said of it, entry by entry, and range by range.
use Rattle.std.specs.Prelude.{◌≡◌, ◌≢◌, ◌≤◌, ◌+◌, ◌*◌, ◌↔◌, ℕ, List, [], ◌∷◌, length, drop, take, nat_le, slice_get}
use Rattle.std.specs.Prelude.{if◌then◌else◌, true, Some, None, Ok}
use Rattle.goblin.specs.ProgramHeaders.{loaded_from}
use Rattle.goblin.specs.SectionHeaders.{is_table}
use Rattle.goblin.specs.declared.elf.program_header.ProgramHeader.{ProgramHeader}
use Rattle.goblin.specs.declared.elf.section_header.SectionHeader.{SectionHeader}
use Rattle.goblin_base.specs.declared.container.Ctx.{Ctx}
use Rattle.goblin_dynamic.specs.Dyn.{entry_of, entry_size}
use Rattle.goblin_dynamic.specs.Dynamic.{dynamic_range, dynamic_section, dynamic_section_range, entries_at, entries_in}
use Rattle.goblin_dynamic.specs.Dynamic.{entries_up_to_null, first_value, in_file, strings_range}
use Rattle.goblin_dynamic.specs.Dynamic.{strings_section_range, values_with, whole_entries, whole_entries_in}
use Rattle.goblin_dynamic.specs.declared.dynamic.FileRange.{FileRange}
use Rattle.goblin_dynamic.specs.declared.entry.Dyn.{Dyn}

-- each entry that lies whole in the bytes is read where it lies, one after another
abbrev pub EntriesInARow : Type 0
EntriesInARow =
    (bytes : List ℕ) (ctx : Ctx) (k : ℕ)
    → let size = entry_size ctx.container in
    let here = entry_of ctx.container ctx.le (take size (drop (k * size) bytes)) in
    slice_get (whole_entries bytes ctx) k ≡ (if nat_le ((k + 1) * size) (length bytes) then Some here else None)

-- they end before the first with tag 0 (DT_NULL)
pub record EndAtNull : Type 0 where
  pub none : entries_up_to_null [] ≡ []
  pub end : (d : Dyn) (rest : List Dyn) → d.d_tag ≡ 0 → entries_up_to_null (d ∷ rest) ≡ []
  pub kept : (d : Dyn) (rest : List Dyn) → d.d_tag ≢ 0 → entries_up_to_null (d ∷ rest) ≡ d ∷ entries_up_to_null rest

-- a range that lies in the file has exactly the entries of its bytes, one after another, up to the first with tag 0
pub record EntriesOfARange : Type 0 where
  pub whole :
      (bytes : List ℕ) (r : FileRange) (ctx : Ctx)
      → r.offset + r.size ≤ length bytes
      → whole_entries_in bytes r ctx ≡ Ok (whole_entries (take r.size (drop r.offset bytes)) ctx)
  pub up_to_null :
      (bytes : List ℕ) (r : FileRange) (ctx : Ctx)
      → r.offset + r.size ≤ length bytes
      → entries_in bytes r ctx ≡ Ok (entries_up_to_null (whole_entries (take r.size (drop r.offset bytes)) ctx))
  pub there :
      (bytes : List ℕ) (r : FileRange) (ctx : Ctx) (entries : List Dyn)
      → entries_in bytes r ctx ≡ Ok entries → entries_at bytes (Some r) ctx ≡ Ok (Some entries)
  pub none : (bytes : List ℕ) (ctx : Ctx) → entries_at bytes None ctx ≡ Ok None

-- the values of a tag are those of the entries with it, in their order, and its value is the first of them
pub record ValuesOfATag : Type 0 where
  pub none : (tag : ℕ) → (values_with tag [] ≡ []) × (first_value tag [] ≡ None)
  pub of_it :
      (tag : ℕ) (d : Dyn) (rest : List Dyn)
      → d.d_tag ≡ tag
      → (values_with tag (d ∷ rest) ≡ d.d_val ∷ values_with tag rest) × (first_value tag (d ∷ rest) ≡ Some d.d_val)
  pub of_another :
      (tag : ℕ) (d : Dyn) (rest : List Dyn)
      → d.d_tag ≢ tag
      → (values_with tag (d ∷ rest) ≡ values_with tag rest) × (first_value tag (d ∷ rest) ≡ first_value tag rest)

-- the range is that of the first segment of type 2 (PT_DYNAMIC), or of the first section of type 6 (SHT_DYNAMIC)
pub record RangeOfTheFirst : Type 0 where
  pub none : (dynamic_range [] ≡ None) × (dynamic_section_range [] ≡ None)
  pub segment :
      (s : ProgramHeader) (rest : List ProgramHeader)
      → s.p_type ≡ 2 → dynamic_range (s ∷ rest) ≡ Some (record { offset = s.p_offset; size = s.p_filesz })
  pub other_segment :
      (s : ProgramHeader) (rest : List ProgramHeader)
      → s.p_type ≢ 2 → dynamic_range (s ∷ rest) ≡ dynamic_range rest
  pub section :
      (s : SectionHeader) (rest : List SectionHeader)
      → s.sh_type ≡ 6 → dynamic_section_range (s ∷ rest) ≡ Some (record { offset = s.sh_offset; size = s.sh_size })
  pub other_section :
      (s : SectionHeader) (rest : List SectionHeader)
      → s.sh_type ≢ 6 → dynamic_section_range (s ∷ rest) ≡ dynamic_section_range rest

-- the strings begin where the value of tag 5 (DT_STRTAB) is loaded from, and have the size of tag 10 (DT_STRSZ); or
-- they are the section that the first one of type 6 names, unless that has index 0 or no bytes in the file
pub record WhereStringsLie : Type 0 where
  pub by_segments :
      (entries : List Dyn) (segments : List ProgramHeader) (r : FileRange)
      → strings_range entries segments ≡ Some r
      ↔ ((address : ℕ)
      × (first_value 5 entries ≡ Some address)
      × (first_value 10 entries ≡ Some r.size)
      × (loaded_from address segments ≡ Some r.offset))
  pub by_sections :
      (sections : List SectionHeader) (r : FileRange)
      → strings_section_range sections ≡ Some r
      ↔ ((s strings : SectionHeader)
      × (dynamic_section sections ≡ Some s)
      × (slice_get sections s.sh_link ≡ Some strings)
      × (is_table s.sh_link strings.sh_type ≡ true)
      × (r ≡ record { offset = strings.sh_offset; size = strings.sh_size }))

-- what is returned lies in the file
pub record RangesLieInFile : Type 0 where
  pub entries :
      (bytes : List ℕ) (r : FileRange) (ctx : Ctx) (entries : List Dyn)
      → entries_in bytes r ctx ≡ Ok entries → r.offset + r.size ≤ length bytes
  pub strings :
      (bytes : List ℕ) (r : FileRange)
      → in_file bytes (Some r) ≡ Ok (Some r) ↔ r.offset + r.size ≤ length bytes
