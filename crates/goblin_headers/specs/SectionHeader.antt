-- Section headers of either class (System V gABI, "Section Header").
use Rattle.std.specs.Prelude.{ℕ, List, [], ◌∷◌, slice_index, Bool, not, ◌&&◌, ◌==◌, bit_and}
use Rattle.goblin_headers.specs.Common.{Container, Endian, field, values_of, Layout, Shape, shaped, widened, Little}
use Rattle.goblin_headers.specs.Common.{Big, SectionHeader}
use Rattle.goblin_headers.specs.declared.section_header32.SectionHeader.{SectionHeader as Raw32}
use Rattle.goblin_headers.specs.declared.section_header64.SectionHeader.{SectionHeader as Raw64}

-- ---- one class
-- the fields of a section header in file order, each with its width in bytes
abbrev pub section_header32 : Shape Raw32
section_header32 = record {
  fields = λ h.
      field 4 h.sh_name ∷ field 4 h.sh_type ∷ field 4 h.sh_flags ∷ field 4 h.sh_addr ∷ field 4 h.sh_offset
      ∷ field 4 h.sh_size ∷ field 4 h.sh_link ∷ field 4 h.sh_info ∷ field 4 h.sh_addralign ∷ field 4 h.sh_entsize
      ∷ [];
  of_values = λ values. record {
    sh_name = slice_index values 0;
    sh_type = slice_index values 1;
    sh_flags = slice_index values 2;
    sh_addr = slice_index values 3;
    sh_offset = slice_index values 4;
    sh_size = slice_index values 5;
    sh_link = slice_index values 6;
    sh_info = slice_index values 7;
    sh_addralign = slice_index values 8;
    sh_entsize = slice_index values 9;
  };
}

abbrev pub section_header64 : Shape Raw64
section_header64 = record {
  fields = λ h.
      field 4 h.sh_name ∷ field 4 h.sh_type ∷ field 8 h.sh_flags ∷ field 8 h.sh_addr ∷ field 8 h.sh_offset
      ∷ field 8 h.sh_size ∷ field 4 h.sh_link ∷ field 4 h.sh_info ∷ field 8 h.sh_addralign ∷ field 8 h.sh_entsize
      ∷ [];
  of_values = λ values. record {
    sh_name = slice_index values 0;
    sh_type = slice_index values 1;
    sh_flags = slice_index values 2;
    sh_addr = slice_index values 3;
    sh_offset = slice_index values 4;
    sh_size = slice_index values 5;
    sh_link = slice_index values 6;
    sh_info = slice_index values 7;
    sh_addralign = slice_index values 8;
    sh_entsize = slice_index values 9;
  };
}

-- ---- either class
-- the size of a section header of a class in bytes
abbrev pub section_header_size : Container → ℕ
section_header_size Little = 40
section_header_size Big = 64

-- the section header with these field values, in file order, which is the same in both classes
abbrev pub section_header_of_values : List ℕ → SectionHeader
section_header_of_values values = record {
  sh_name = slice_index values 0;
  sh_type = slice_index values 1;
  sh_flags = slice_index values 2;
  sh_addr = slice_index values 3;
  sh_offset = slice_index values 4;
  sh_size = slice_index values 5;
  sh_link = slice_index values 6;
  sh_info = slice_index values 7;
  sh_addralign = slice_index values 8;
  sh_entsize = slice_index values 9;
}

-- a section header has at least one of these flags
abbrev pub has_flag : SectionHeader → ℕ → Bool
has_flag h flags = not (bit_and h.sh_flags flags == 0)

-- a section in memory that may be executed, and one that may be written
abbrev pub is_executable : SectionHeader → Bool
is_executable h = has_flag h 2 && has_flag h 4

abbrev pub is_writable : SectionHeader → Bool
is_writable h = has_flag h 2 && has_flag h 1

-- the values of the fields of a section header in file order, which is the same in both classes
abbrev pub section_header_values : SectionHeader → List ℕ
section_header_values h =
    h.sh_name ∷ h.sh_type ∷ h.sh_flags ∷ h.sh_addr ∷ h.sh_offset ∷ h.sh_size ∷ h.sh_link ∷ h.sh_info ∷ h.sh_addralign
    ∷ h.sh_entsize ∷ []

-- the section header with the fields of a raw one
abbrev pub widened32 : Raw32 → SectionHeader
widened32 h = section_header_of_values (values_of (section_header32.fields h))

abbrev pub widened64 : Raw64 → SectionHeader
widened64 h = section_header_of_values (values_of (section_header64.fields h))

-- the raw section header with the same fields, whether they fit or not
abbrev pub as32 : SectionHeader → Raw32
as32 h = section_header32.of_values (section_header_values h)

abbrev pub as64 : SectionHeader → Raw64
as64 h = section_header64.of_values (section_header_values h)

-- how the section headers of each class lie in bytes: as the raw ones of the class
abbrev pub raw_layout : Container → Endian → Layout SectionHeader
raw_layout Little order = widened widened32 as32 (shaped section_header32 order)
raw_layout Big order = widened widened64 as64 (shaped section_header64 order)

-- how section headers of a class and a byte order lie in bytes
abbrev pub section_header_layout : Container → Endian → Layout SectionHeader
section_header_layout class order = record (raw_layout class order) { size = section_header_size class }

-- the section header read from bytes in a class
abbrev pub section_header_of : Container → Endian → List ℕ → SectionHeader
section_header_of class order = (section_header_layout class order).read
