-- New section headers, lists of them, and whether a section lies in its file (System V gABI, "Section Header").
use Rattle.std.specs.Prelude.{◌+◌, ◌/◌, ◌^◌, ◌||◌, ◌==◌, ℕ, nat_lt, nat_le, if◌then◌else◌, not, List, [], codes, drop}
use Rattle.std.specs.Prelude.{length, max, Bool, true, Option, Some, None, Result, Ok}
use Rattle.goblin_headers.specs.Common.{Ctx, Error, Malformed, records_in, unless_fault, Refusal, buffer_too_short}
use Rattle.goblin_headers.specs.Common.{misplaced, room_of, refuse_if, refuse_as, SectionHeader, ◌>>=◌}
use Rattle.goblin_base.specs.declared.error.Fault.TheVariants.{SectionOffset, SectionAddr}
use Rattle.goblin_headers.specs.SectionHeader.{section_header_size, section_header_of}

-- the number of headers that are asked for: the count, or the first header's `sh_size` if the count is 0
abbrev pub header_count : SectionHeader → ℕ → ℕ
header_count first count = if count == 0 then first.sh_size else count

-- the same, with the first header at an offset
abbrev pub count_asked : List ℕ → ℕ → ℕ → Ctx → ℕ
count_asked bytes offset count ctx = header_count (section_header_of ctx.container ctx.le (drop offset bytes)) count

-- the number of headers to read from an offset on, at least 1; the bytes must hold the first
abbrev pub count_from : List ℕ → ℕ → ℕ → Ctx → Result ℕ Error
count_from bytes offset count ctx =
    unless_fault (room_of (length bytes) offset (section_header_size ctx.container))
    (max 1 (count_asked bytes offset count ctx))

-- the tests before the allocation: the bytes hold the first header, and that many headers fit into them at some offset
unfoldable pub section_headers_from_tested : List ℕ → ℕ → ℕ → Ctx → Result (Unit {0}) Refusal
section_headers_from_tested bytes offset count ctx = do
  _ ← refuse_as misplaced (room_of (length bytes) offset (section_header_size ctx.container))
  let asked = count_asked bytes offset count ctx in
      refuse_if (nat_lt (length bytes / section_header_size ctx.container) asked)
      (buffer_too_short asked (codes "section headers"))

-- the section headers from an offset on, at least one: after those tests the first that the bytes don't hold is refused
unfoldable pub section_headers_from : List ℕ → ℕ → ℕ → Ctx → Result (List SectionHeader) Refusal
section_headers_from bytes offset count ctx = do
  _ ← section_headers_from_tested bytes offset count ctx
  records_in (section_header_size ctx.container) (section_header_of ctx.container ctx.le) bytes offset
      (max 1 (count_asked bytes offset count ctx))

-- the section headers of a file: none if their offset is 0
abbrev pub section_headers_of : List ℕ → ℕ → ℕ → Ctx → Result (List SectionHeader) Refusal
section_headers_of bytes offset count ctx = if offset == 0 then Ok [] else section_headers_from bytes offset count ctx

-- those of its tests that come before the allocation
abbrev pub section_headers_of_tested : List ℕ → ℕ → ℕ → Ctx → Result (Unit {0}) Refusal
section_headers_of_tested bytes offset count ctx =
    if offset == 0 then Ok tt else section_headers_from_tested bytes offset count ctx

-- the `sh_link` of the first section, or 0 if there are no sections
abbrev pub link_of : Option SectionHeader → ℕ
link_of (Some section) = section.sh_link
link_of None = 0

-- the index of the section that holds the section names: the index in the header, or that link if it is 0xffff
abbrev pub names_index : ℕ → Option SectionHeader → ℕ
names_index index first = if index == 0xffff then link_of first else index

-- sections of type 8 (SHT_NOBITS) have no bytes in the file
abbrev pub is_nobits : ℕ → Bool
is_nobits sh_type = sh_type == 8

-- others may name a section of this type by its index as a table: index 0 is no section, and a table has bytes in the
-- file
abbrev pub is_table : ℕ → ℕ → Bool
is_table index sh_type = not (index == 0 || is_nobits sh_type)

-- the section at an index, if it is such a table
abbrev pub linked : ℕ → Option SectionHeader → Option SectionHeader
linked index (Some section) = if is_table index section.sh_type then Some section else None
linked index None = None

-- whether a section with bytes in the file lies in a file of so many bytes, and its addresses end below 2 ^ 64
abbrev pub size_checked : ℕ → SectionHeader → Result (Unit {0}) Error
size_checked len s =
    if is_nobits s.sh_type || s.sh_size == 0 then Ok tt
    else do
      _ ← refuse_if (nat_lt len (s.sh_offset + s.sh_size))
          (Malformed (SectionOffset s.sh_name s.sh_size s.sh_offset (nat_le (2 ^ 64) (s.sh_offset + s.sh_size))))
      refuse_if (nat_le (2 ^ 64) (s.sh_addr + s.sh_size)) (Malformed (SectionAddr s.sh_name s.sh_size s.sh_addr true))

-- the same in a mode: every section passes a permissive check
abbrev pub size_checked_in : Bool → ℕ → SectionHeader → Result (Unit {0}) Error
size_checked_in permissive len s = if permissive then Ok tt else size_checked len s
