-- The dynamic section: its entries, and where it and its strings lie in the file (System V gABI, "Dynamic Section").
use Rattle.std.specs.Prelude.{◌/◌, ◌==◌, ℕ, List, drop, filter, find, length, map, not, slice_get, take}
use Rattle.std.specs.Prelude.{take_while, Option, Some, None, Result, Ok}
use Rattle.std.specs.Option.{option_and_then, option_map}
use Rattle.goblin.specs.ProgramHeaders.{loaded_from}
use Rattle.goblin.specs.SectionHeaders.{linked}
use Rattle.goblin.specs.declared.elf.program_header.ProgramHeader.{ProgramHeader}
use Rattle.goblin.specs.declared.elf.section_header.SectionHeader.{SectionHeader}
use Rattle.goblin_base.specs.Record.{records, unless_fault}
use Rattle.goblin_base.specs.Room.{room_of}
use Rattle.goblin_base.specs.Steps.{◌>>=◌}
use Rattle.goblin_base.specs.declared.container.Ctx.{Ctx}
use Rattle.goblin_base.specs.declared.error.Error.{Error}
use Rattle.goblin_dynamic.specs.Dyn.{entry_of, entry_size}
use Rattle.goblin_dynamic.specs.declared.dynamic.FileRange.{FileRange}
use Rattle.goblin_dynamic.specs.declared.entry.Dyn.{Dyn}

-- ---- entries
-- all entries that lie whole in some bytes, one after another
abbrev pub whole_entries : List ℕ → Ctx → List Dyn
whole_entries bytes ctx =
    let size = entry_size ctx.container in
    records size (entry_of ctx.container ctx.le) (length bytes / size) bytes

-- those of a range, which must lie in the file
abbrev pub whole_entries_in : List ℕ → FileRange → Ctx → Result (List Dyn) Error
whole_entries_in bytes range ctx =
    unless_fault (room_of (length bytes) range.offset range.size)
    (whole_entries (take range.size (drop range.offset bytes)) ctx)

-- those before the first with tag 0 (DT_NULL), or all if none has it
abbrev pub entries_up_to_null : List Dyn → List Dyn
entries_up_to_null entries = take_while (λ d. not (d.d_tag == 0)) entries

-- those of a range, which must lie in the file
abbrev pub entries_in : List ℕ → FileRange → Ctx → Result (List Dyn) Error
entries_in bytes range ctx = do
  entries ← whole_entries_in bytes range ctx
  Ok (entries_up_to_null entries)

-- the entries of a range, if there is one
abbrev pub entries_at : List ℕ → Option FileRange → Ctx → Result (Option (List Dyn)) Error
entries_at bytes (Some range) ctx = do
  entries ← entries_in bytes range ctx
  Ok (Some entries)
entries_at bytes None ctx = Ok None

-- the values of all entries with a tag, in their order
abbrev pub values_with : ℕ → List Dyn → List ℕ
values_with tag entries = map (λ d. d.d_val) (filter (λ d. d.d_tag == tag) entries)

-- the first of these values
abbrev pub first_value : ℕ → List Dyn → Option ℕ
first_value tag entries = slice_get (values_with tag entries) 0

-- so many bytes at an offset of the file
abbrev pub file_range : ℕ → ℕ → FileRange
file_range offset size = record { offset = offset; size = size }

-- a range, if there is one, which must lie in the file
abbrev pub in_file : List ℕ → Option FileRange → Result (Option FileRange) Error
in_file bytes (Some range) = unless_fault (room_of (length bytes) range.offset range.size) (Some range)
in_file bytes None = Ok None

-- ---- by segments
-- the bytes of a segment in the file
abbrev pub segment_range : ProgramHeader → FileRange
segment_range s = file_range s.p_offset s.p_filesz

-- the first segment of the dynamic section's type, 2 (PT_DYNAMIC)
abbrev pub dynamic_segment : List ProgramHeader → Option ProgramHeader
dynamic_segment segments = find (λ s. s.p_type == 2) segments

-- where the dynamic section lies, by the segments
abbrev pub dynamic_range : List ProgramHeader → Option FileRange
dynamic_range segments = option_map segment_range (dynamic_segment segments)

-- where so many bytes begin that are loaded at an address
abbrev pub loaded_range : List ProgramHeader → ℕ → ℕ → Option FileRange
loaded_range segments address size =
    option_map (λ offset. file_range offset size) (loaded_from address segments)

-- where the strings lie: their address is the value of tag 5 (DT_STRTAB), their size that of tag 10 (DT_STRSZ)
abbrev pub strings_range : List Dyn → List ProgramHeader → Option FileRange
strings_range entries segments =
    option_and_then (λ address. option_and_then (loaded_range segments address) (first_value 10 entries))
    (first_value 5 entries)

-- ---- by sections
-- the bytes of a section in the file
abbrev pub section_range : SectionHeader → FileRange
section_range s = file_range s.sh_offset s.sh_size

-- the first section of the dynamic section's type, 6 (SHT_DYNAMIC)
abbrev pub dynamic_section : List SectionHeader → Option SectionHeader
dynamic_section sections = find (λ s. s.sh_type == 6) sections

-- where the dynamic section lies
abbrev pub dynamic_section_range : List SectionHeader → Option FileRange
dynamic_section_range sections = option_map section_range (dynamic_section sections)

-- where its strings lie: in the section that its `sh_link` names
abbrev pub strings_section_range : List SectionHeader → Option FileRange
strings_section_range sections =
    option_map section_range
    (option_and_then (λ s. linked s.sh_link (slice_get sections s.sh_link)) (dynamic_section sections))
