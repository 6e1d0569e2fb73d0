-- Program headers of either class (System V gABI, "Program Header").
use Rattle.std.specs.Prelude.{ℕ, List, [], ◌∷◌, slice_index}
use Rattle.goblin_headers.specs.Common.{Container, Endian, field, values_of, Layout, Shape, shaped, widened, Little}
use Rattle.goblin_headers.specs.Common.{Big, ProgramHeader}
use Rattle.goblin_headers.specs.declared.program_header32.ProgramHeader.{ProgramHeader as Raw32}
use Rattle.goblin_headers.specs.declared.program_header64.ProgramHeader.{ProgramHeader as Raw64}

-- ---- one class
-- the fields of a program header in file order, each with its width in bytes
abbrev pub program_header32 : Shape Raw32
program_header32 = record {
  fields = λ h.
      field 4 h.p_type ∷ field 4 h.p_offset ∷ field 4 h.p_vaddr ∷ field 4 h.p_paddr ∷ field 4 h.p_filesz
      ∷ field 4 h.p_memsz ∷ field 4 h.p_flags ∷ field 4 h.p_align ∷ [];
  of_values = λ values. record {
    p_type = slice_index values 0;
    p_offset = slice_index values 1;
    p_vaddr = slice_index values 2;
    p_paddr = slice_index values 3;
    p_filesz = slice_index values 4;
    p_memsz = slice_index values 5;
    p_flags = slice_index values 6;
    p_align = slice_index values 7;
  };
}

abbrev pub program_header64 : Shape Raw64
program_header64 = record {
  fields = λ h.
      field 4 h.p_type ∷ field 4 h.p_flags ∷ field 8 h.p_offset ∷ field 8 h.p_vaddr ∷ field 8 h.p_paddr
      ∷ field 8 h.p_filesz ∷ field 8 h.p_memsz ∷ field 8 h.p_align ∷ [];
  of_values = λ values. record {
    p_type = slice_index values 0;
    p_flags = slice_index values 1;
    p_offset = slice_index values 2;
    p_vaddr = slice_index values 3;
    p_paddr = slice_index values 4;
    p_filesz = slice_index values 5;
    p_memsz = slice_index values 6;
    p_align = slice_index values 7;
  };
}

-- ---- either class
-- the size of a program header of a class in bytes
abbrev pub program_header_size : Container → ℕ
program_header_size Little = 32
program_header_size Big = 56

-- the program header with these field values, in the file order of the 64-bit class
abbrev pub program_header_of_values : List ℕ → ProgramHeader
program_header_of_values values = record {
  p_type = slice_index values 0;
  p_flags = slice_index values 1;
  p_offset = slice_index values 2;
  p_vaddr = slice_index values 3;
  p_paddr = slice_index values 4;
  p_filesz = slice_index values 5;
  p_memsz = slice_index values 6;
  p_align = slice_index values 7;
}

-- the program header with the fields of a raw one
abbrev pub widened32 : Raw32 → ProgramHeader
widened32 h =
    program_header_of_values
    (h.p_type ∷ h.p_flags ∷ h.p_offset ∷ h.p_vaddr ∷ h.p_paddr ∷ h.p_filesz ∷ h.p_memsz ∷ h.p_align ∷ [])

abbrev pub widened64 : Raw64 → ProgramHeader
widened64 h = program_header_of_values (values_of (program_header64.fields h))

-- the raw program header with the same fields, whether they fit or not
abbrev pub as32 : ProgramHeader → Raw32
as32 h =
    program_header32.of_values
    (h.p_type ∷ h.p_offset ∷ h.p_vaddr ∷ h.p_paddr ∷ h.p_filesz ∷ h.p_memsz ∷ h.p_flags ∷ h.p_align ∷ [])

abbrev pub as64 : ProgramHeader → Raw64
as64 h =
    program_header64.of_values
    (h.p_type ∷ h.p_flags ∷ h.p_offset ∷ h.p_vaddr ∷ h.p_paddr ∷ h.p_filesz ∷ h.p_memsz ∷ h.p_align ∷ [])

-- how the program headers of each class lie in bytes: as the raw ones of the class
abbrev pub raw_layout : Container → Endian → Layout ProgramHeader
raw_layout Little order = widened widened32 as32 (shaped program_header32 order)
raw_layout Big order = widened widened64 as64 (shaped program_header64 order)

-- how program headers of a class and a byte order lie in bytes
abbrev pub program_header_layout : Container → Endian → Layout ProgramHeader
program_header_layout class order = record (raw_layout class order) { size = program_header_size class }

-- the program header read from bytes in a class
abbrev pub program_header_of : Container → Endian → List ℕ → ProgramHeader
program_header_of class order = (program_header_layout class order).read
