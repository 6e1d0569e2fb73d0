-- Symbols of either class, and lists of them (System V gABI, "Symbol Table").
use Rattle.std.specs.Prelude.{codes, Result, [], ◌∷◌, slice_index, Bool, ◌==◌, ◌&&◌, ◌||◌, nat_lt, ℕ, List}
use Rattle.goblin_records.specs.Common.{Container, Endian, records_from, Refusal, field, values_of, Layout, Shape}
use Rattle.goblin_records.specs.Common.{shaped, widened, Little, Big}
use Rattle.goblin_base.specs.declared.container.Ctx.{Ctx}
use Rattle.goblin_records.specs.declared.sym.Sym.{Sym}
use Rattle.goblin_records.specs.declared.sym32.Sym.{Sym as Sym32}
use Rattle.goblin_records.specs.declared.sym64.Sym.{Sym as Sym64}

-- ---- one class
-- the fields of a symbol in file order, each with its width in bytes
abbrev pub sym32 : Shape Sym32
sym32 = record {
  fields = λ s.
      field 4 s.st_name ∷ field 4 s.st_value ∷ field 4 s.st_size ∷ field 1 s.st_info ∷ field 1 s.st_other
      ∷ field 2 s.st_shndx ∷ [];
  of_values = λ values. record {
    st_name = slice_index values 0;
    st_value = slice_index values 1;
    st_size = slice_index values 2;
    st_info = slice_index values 3;
    st_other = slice_index values 4;
    st_shndx = slice_index values 5;
  };
}

abbrev pub sym64 : Shape Sym64
sym64 = record {
  fields = λ s.
      field 4 s.st_name ∷ field 1 s.st_info ∷ field 1 s.st_other ∷ field 2 s.st_shndx ∷ field 8 s.st_value
      ∷ field 8 s.st_size ∷ [];
  of_values = λ values. record {
    st_name = slice_index values 0;
    st_info = slice_index values 1;
    st_other = slice_index values 2;
    st_shndx = slice_index values 3;
    st_value = slice_index values 4;
    st_size = slice_index values 5;
  };
}

-- ---- either class
-- the size of a symbol of a class in bytes
abbrev pub sym_size : Container → ℕ
sym_size Little = 16
sym_size Big = 24

-- the symbol with these field values, in the file order of the 64-bit class
abbrev pub sym_of_values : List ℕ → Sym
sym_of_values values = record {
  st_name = slice_index values 0;
  st_info = slice_index values 1;
  st_other = slice_index values 2;
  st_shndx = slice_index values 3;
  st_value = slice_index values 4;
  st_size = slice_index values 5;
}

-- the symbol with the fields of a raw one
abbrev pub widened32 : Sym32 → Sym
widened32 s = sym_of_values (s.st_name ∷ s.st_info ∷ s.st_other ∷ s.st_shndx ∷ s.st_value ∷ s.st_size ∷ [])

abbrev pub widened64 : Sym64 → Sym
widened64 s = sym_of_values (values_of (sym64.fields s))

-- the raw symbol with the same fields, whether they fit or not
abbrev pub as32 : Sym → Sym32
as32 s = sym32.of_values (s.st_name ∷ s.st_value ∷ s.st_size ∷ s.st_info ∷ s.st_other ∷ s.st_shndx ∷ [])

abbrev pub as64 : Sym → Sym64
as64 s = sym64.of_values (s.st_name ∷ s.st_info ∷ s.st_other ∷ s.st_shndx ∷ s.st_value ∷ s.st_size ∷ [])

-- how the symbols of each class lie in bytes: as the raw ones of the class
abbrev pub raw_layout : Container → Endian → Layout Sym
raw_layout Little order = widened widened32 as32 (shaped sym32 order)
raw_layout Big order = widened widened64 as64 (shaped sym64 order)

-- how symbols of a class and a byte order lie in bytes
abbrev pub sym_layout : Container → Endian → Layout Sym
sym_layout class order = record (raw_layout class order) { size = sym_size class }

-- the symbol read from bytes in a class
abbrev pub sym_of : Container → Endian → List ℕ → Sym
sym_of class order = (sym_layout class order).read

-- a symbol's section index is one of the file's: from 1 on, below 0xff00, or the escape 0xffff
abbrev pub is_in_section : Sym → Bool
is_in_section s = (nat_lt 0 s.st_shndx && nat_lt s.st_shndx 0xff00) || s.st_shndx == 0xffff

-- `count` symbols from an offset on: too many to fit at any offset are refused, else the first that the bytes don't
-- hold is
abbrev pub symbols_from : List ℕ → ℕ → ℕ → Ctx → Result (List Sym) Refusal
symbols_from bytes offset count ctx =
    records_from (sym_size ctx.container) (sym_of ctx.container ctx.le) bytes offset count (codes "symbols")

-- the symbol whose fields are all 0
abbrev pub sym_zero : Sym
sym_zero = sym_of_values []
