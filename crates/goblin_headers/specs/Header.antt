-- The header of a file of either class (System V gABI, "ELF Header" and "ELF Identification").
use Rattle.std.specs.Prelude.{◌≡◌, ◌+◌, ℕ, ◌==◌, if◌then◌else◌, List, [], ◌∷◌, ◌++◌, length, replicate, slice_index}
use Rattle.std.specs.Prelude.{take, Option, Some, None, Result, Ok}
use Rattle.goblin_headers.specs.Common.{Container, Ctx, Endian, Error, Malformed, Fault, values_of, Field, field, total}
use Rattle.goblin_headers.specs.Common.{FieldsFit, image_of_fields, values_at, widths_of, lows_of, Layout, widened}
use Rattle.goblin_headers.specs.Common.{◌>>=◌, or_refuse, Header, SectionHeader, InvalidClass, InvalidEndianness}
use Rattle.goblin_base.specs.declared.container.Container.TheVariants as class
use Rattle.goblin_base.specs.declared.container.Endian.TheVariants as endian
use Rattle.goblin_headers.specs.declared.header32.Header.{Header as Raw32}
use Rattle.goblin_headers.specs.declared.header64.Header.{Header as Raw64}
use Rattle.goblin_headers.specs.ProgramHeader.{program_header_size}
use Rattle.goblin_headers.specs.SectionHeader.{section_header_size}
use Rattle.goblin_headers.specs.SectionHeaders.{names_index}

-- ---- one class
-- the shape of a header: its identification, the fields that follow it in file order, and the header with this
-- identification and these values of its other fields; a missing value is 0
--
--     bytes | identification | field 0 | field 1 | ..
--             16               w0        w1        ..
pub record HeaderShape (R : Type 0) : Type 0 where
  pub ident : R → List ℕ
  pub fields : R → List Field
  pub of_values : List ℕ → List ℕ → R

-- the widths of the fields after the identification
abbrev pub field_widths : {R : Type 0} → HeaderShape R → List ℕ
field_widths s = widths_of (s.fields (s.of_values [] []))

-- the header with the low bits of each field after its identification, as many as its width holds
abbrev pub low_header : {R : Type 0} → HeaderShape R → R → R
low_header s h = s.of_values (s.ident h) (lows_of (s.fields h))

-- headers of a shape in a byte order: the first 16 bytes are as they are, then each field is the number at its offset
abbrev pub headed : {R : Type 0} → HeaderShape R → Endian → Layout R
headed s order = record {
  size = 16 + total (field_widths s);
  read = λ bytes. s.of_values (take 16 bytes) (values_at order bytes 16 (field_widths s));
  image = λ h. s.ident h ++ image_of_fields order (s.fields h);
  low = low_header s;
  Fits = λ h. FieldsFit (s.fields h);
}

-- the shape of the headers of each class
abbrev pub header32 : HeaderShape Raw32
header32 = record {
  ident = λ h. h.e_ident;
  fields = λ h.
      field 2 h.e_type ∷ field 2 h.e_machine ∷ field 4 h.e_version ∷ field 4 h.e_entry ∷ field 4 h.e_phoff
      ∷ field 4 h.e_shoff ∷ field 4 h.e_flags ∷ field 2 h.e_ehsize ∷ field 2 h.e_phentsize ∷ field 2 h.e_phnum
      ∷ field 2 h.e_shentsize ∷ field 2 h.e_shnum ∷ field 2 h.e_shstrndx ∷ [];
  of_values = λ ident values. record {
    e_ident = ident;
    e_type = slice_index values 0;
    e_machine = slice_index values 1;
    e_version = slice_index values 2;
    e_entry = slice_index values 3;
    e_phoff = slice_index values 4;
    e_shoff = slice_index values 5;
    e_flags = slice_index values 6;
    e_ehsize = slice_index values 7;
    e_phentsize = slice_index values 8;
    e_phnum = slice_index values 9;
    e_shentsize = slice_index values 10;
    e_shnum = slice_index values 11;
    e_shstrndx = slice_index values 12;
  };
}

abbrev pub header64 : HeaderShape Raw64
header64 = record {
  ident = λ h. h.e_ident;
  fields = λ h.
      field 2 h.e_type ∷ field 2 h.e_machine ∷ field 4 h.e_version ∷ field 8 h.e_entry ∷ field 8 h.e_phoff
      ∷ field 8 h.e_shoff ∷ field 4 h.e_flags ∷ field 2 h.e_ehsize ∷ field 2 h.e_phentsize ∷ field 2 h.e_phnum
      ∷ field 2 h.e_shentsize ∷ field 2 h.e_shnum ∷ field 2 h.e_shstrndx ∷ [];
  of_values = λ ident values. record {
    e_ident = ident;
    e_type = slice_index values 0;
    e_machine = slice_index values 1;
    e_version = slice_index values 2;
    e_entry = slice_index values 3;
    e_phoff = slice_index values 4;
    e_shoff = slice_index values 5;
    e_flags = slice_index values 6;
    e_ehsize = slice_index values 7;
    e_phentsize = slice_index values 8;
    e_phnum = slice_index values 9;
    e_shentsize = slice_index values 10;
    e_shnum = slice_index values 11;
    e_shstrndx = slice_index values 12;
  };
}

-- ---- either class
-- the size of a header in bytes
abbrev pub header_size : Container → ℕ
header_size class.Little = 52
header_size class.Big = 64

-- the four bytes that every ELF file begins with
abbrev pub magic : List ℕ
magic = 0x7f ∷ 0x45 ∷ 0x4c ∷ 0x46 ∷ []

-- the class that a class byte names
abbrev pub class_named : ℕ → Option Container
class_named byte = if byte == 1 then Some class.Little else if byte == 2 then Some class.Big else None

-- the byte order that a data byte names
abbrev pub order_named : ℕ → Option Endian
order_named byte = if byte == 1 then Some endian.Little else if byte == 2 then Some endian.Big else None

-- the class byte of a class, and the data byte of a byte order
abbrev pub class_byte : Container → ℕ
class_byte class.Little = 1
class_byte class.Big = 2

abbrev pub data_byte : Endian → ℕ
data_byte endian.Little = 1
data_byte endian.Big = 2

-- the class that the class byte of an identification names, or this fault of that byte
abbrev pub class_of : (ℕ → Fault) → List ℕ → Result Container Error
class_of fault ident = or_refuse (class_named (slice_index ident 4)) (Malformed (fault (slice_index ident 4)))

-- the byte order that the data byte of an identification names, or this fault of that byte
abbrev pub order_of : (ℕ → Fault) → List ℕ → Result Endian Error
order_of fault ident = or_refuse (order_named (slice_index ident 5)) (Malformed (fault (slice_index ident 5)))

-- the class and the byte order that a header names; of two wrong bytes the class byte is the fault
abbrev pub ctx_of : Header → Result Ctx Error
ctx_of h = do
  class ← class_of InvalidClass h.e_ident
  order ← order_of InvalidEndianness h.e_ident
  Ok (record { container = class; le = order })

-- the index of the section that holds the section names, if this is the first section
abbrev pub names_index_of : Header → Option SectionHeader → ℕ
names_index_of h first = names_index h.e_shstrndx first

-- an identification of 16 bytes that names this byte order
pub record NamesOrder (order : Endian) (ident : List ℕ) : Type 0 where
  pub long : length ident ≡ 16
  pub named : order_named (slice_index ident 5) ≡ Some order

-- an identification that begins with the magic number, and names this class and this byte order
pub record Identifies (class : Container) (order : Endian) (ident : List ℕ) : Type 0 where
  pub begins : take 4 ident ≡ magic
  pub named : class_named (slice_index ident 4) ≡ Some class
  pub names_order : NamesOrder order ident

-- the values of the fields of a header after its identification, in file order, which is the same in both classes
abbrev pub header_values : Header → List ℕ
header_values h =
    h.e_type ∷ h.e_machine ∷ h.e_version ∷ h.e_entry ∷ h.e_phoff ∷ h.e_shoff ∷ h.e_flags ∷ h.e_ehsize ∷ h.e_phentsize
    ∷ h.e_phnum ∷ h.e_shentsize ∷ h.e_shnum ∷ h.e_shstrndx ∷ []

-- the header with this identification and these values of its other fields
abbrev pub header_of_values : List ℕ → List ℕ → Header
header_of_values ident values = record {
  e_ident = ident;
  e_type = slice_index values 0;
  e_machine = slice_index values 1;
  e_version = slice_index values 2;
  e_entry = slice_index values 3;
  e_phoff = slice_index values 4;
  e_shoff = slice_index values 5;
  e_flags = slice_index values 6;
  e_ehsize = slice_index values 7;
  e_phentsize = slice_index values 8;
  e_phnum = slice_index values 9;
  e_shentsize = slice_index values 10;
  e_shnum = slice_index values 11;
  e_shstrndx = slice_index values 12;
}

-- the header with the fields of a raw one
abbrev pub widened32 : Raw32 → Header
widened32 h = header_of_values h.e_ident (values_of (header32.fields h))

abbrev pub widened64 : Raw64 → Header
widened64 h = header_of_values h.e_ident (values_of (header64.fields h))

-- the raw header with the same fields, whether they fit or not
abbrev pub as32 : Header → Raw32
as32 h = header32.of_values h.e_ident (header_values h)

abbrev pub as64 : Header → Raw64
as64 h = header64.of_values h.e_ident (header_values h)

-- how the headers of each class lie in bytes: as the raw ones of the class
abbrev pub raw_layout : Container → Endian → Layout Header
raw_layout class.Little order = widened widened32 as32 (headed header32 order)
raw_layout class.Big order = widened widened64 as64 (headed header64 order)

-- how headers of a class and a byte order lie in bytes
abbrev pub header_layout : Container → Endian → Layout Header
header_layout class order = record (raw_layout class order) { size = header_size class }

-- each field of a header after its identification is in the range of its width in a class, whatever the byte order
abbrev pub HeaderFits : Container → Header → Type 0
HeaderFits class h = (header_layout class endian.Little).Fits h

-- the identification of a new file in a context, version 1, with all other bytes 0
abbrev pub new_ident : Ctx → List ℕ
new_ident ctx = magic ++ class_byte ctx.container ∷ data_byte ctx.le ∷ 1 ∷ replicate 9 0

-- the header of a shared object file in a context, version 1, with the sizes of its class and all other fields 0
abbrev pub new_header : Ctx → Header
new_header ctx = record (header_of_values (new_ident ctx) []) {
  e_type = 3;
  e_version = 1;
  e_ehsize = header_size ctx.container;
  e_phentsize = program_header_size ctx.container;
  e_shentsize = section_header_size ctx.container;
}
