-- Relocations of either class, with an addend or without, and lists of them (System V gABI, "Relocation").
use Rattle.std.specs.Prelude.{◌-◌, negsuc}
use Rattle.std.specs.Prelude.{◌%◌, ℤ, pos, Bool, false, true, Option, Some, None, unwrap_or, IsSomeAnd, [], ◌∷◌}
use Rattle.std.specs.Prelude.{slice_index, ◌≡◌, ◌<◌, ◌^◌, ℕ, List}
use Rattle.goblin_records.specs.Common.{Container, Endian, field, Layout, Shape, shaped, converted, widened, low_bits}
use Rattle.goblin_records.specs.Common.{IsSameInEachClass, Little, Big, FitsSigned, Reloc, RelocCtx, word_size}
use Rattle.goblin_records.specs.Common.{signed_of, complement, signed_low}
use Rattle.goblin_base.specs.declared.container.Endian.TheVariants as order
use Rattle.goblin_records.specs.declared.reloc32.Rel.{Rel as Rel32}
use Rattle.goblin_records.specs.declared.reloc32.Rela.{Rela as Rela32}
use Rattle.goblin_records.specs.declared.reloc64.Rel.{Rel as Rel64}
use Rattle.goblin_records.specs.declared.reloc64.Rela.{Rela as Rela64}
use Rattle.goblin_records.specs.RelocInfo.{symbols, types, symbol_in, type_in, info_of, mips64el_pair}
use Rattle.goblin_records.specs.RelocInfo.{mips64el_pair_inverse}

-- ---- one class
-- the fields of a relocation in file order, without an addend and with one, each with its width in bytes; a negative
-- addend is its two's complement
abbrev pub rel32 : Shape Rel32
rel32 = record {
  fields = λ r. field 4 r.r_offset ∷ field 4 r.r_info ∷ [];
  of_values = λ values. record { r_offset = slice_index values 0; r_info = slice_index values 1 };
}

abbrev pub rela32 : Shape Rela32
rela32 = record {
  fields = λ r. field 4 r.r_offset ∷ field 4 r.r_info ∷ field 4 (complement 4 r.r_addend) ∷ [];
  of_values = λ values. record {
    r_offset = slice_index values 0;
    r_info = slice_index values 1;
    r_addend = signed_of 4 (slice_index values 2);
  };
}

abbrev pub rel64 : Shape Rel64
rel64 = record {
  fields = λ r. field 8 r.r_offset ∷ field 8 r.r_info ∷ [];
  of_values = λ values. record { r_offset = slice_index values 0; r_info = slice_index values 1 };
}

abbrev pub rela64 : Shape Rela64
rela64 = record {
  fields = λ r. field 8 r.r_offset ∷ field 8 r.r_info ∷ field 8 (complement 8 r.r_addend) ∷ [];
  of_values = λ values. record {
    r_offset = slice_index values 0;
    r_info = slice_index values 1;
    r_addend = signed_of 8 (slice_index values 2);
  };
}

-- the relocation with the low bits of each field, as many as its width holds, and the addend cut to its width
abbrev pub rela32_low : Rela32 → Rela32
rela32_low r = record (low_bits rela32 r) { r_addend = signed_low 4 r.r_addend }

abbrev pub rela64_low : Rela64 → Rela64
rela64_low r = record (low_bits rela64 r) { r_addend = signed_low 8 r.r_addend }

-- each field is in the range of its width
abbrev pub Rela32Fits : Rela32 → Type 0
Rela32Fits r = (r.r_offset < 256 ^ 4) × (r.r_info < 256 ^ 4) × FitsSigned 4 r.r_addend

abbrev pub Rela64Fits : Rela64 → Type 0
Rela64Fits r = (r.r_offset < 256 ^ 8) × (r.r_info < 256 ^ 8) × FitsSigned 8 r.r_addend

-- how relocations with an addend lie in bytes
abbrev pub rela32_layout : Endian → Layout Rela32
rela32_layout order = record (shaped rela32 order) { low = rela32_low; Fits = Rela32Fits }

abbrev pub rela64_layout : Endian → Layout Rela64
rela64_layout order = record (shaped rela64 order) { low = rela64_low; Fits = Rela64Fits }

-- ---- either class
-- the size of a relocation in bytes, with an addend or without, in a class
abbrev pub reloc_size : Bool → Container → ℕ
reloc_size false Little = 8
reloc_size true Little = 12
reloc_size false Big = 16
reloc_size true Big = 24

-- the relocation of a class with this offset, addend and `r_info`, whose symbol and type are split
abbrev pub split : Container → ℕ → Option ℤ → ℕ → Reloc
split class offset addend info = record {
  r_offset = offset;
  r_addend = addend;
  r_sym = symbol_in class info;
  r_type = type_in class info;
}

-- the relocation with the fields of a raw one
abbrev pub rel_widened32 : Rel32 → Reloc
rel_widened32 r = split Little r.r_offset None r.r_info

abbrev pub rela_widened32 : Rela32 → Reloc
rela_widened32 r = split Little r.r_offset (Some r.r_addend) r.r_info

abbrev pub rel_widened64 : Rel64 → Reloc
rel_widened64 r = split Big r.r_offset None r.r_info

abbrev pub rela_widened64 : Rela64 → Reloc
rela_widened64 r = split Big r.r_offset (Some r.r_addend) r.r_info

-- the raw relocation with the same offset and addend, whether they fit or not, and the `r_info` of symbol and type; a
-- missing addend becomes 0
abbrev pub rel_as32 : Reloc → Rel32
rel_as32 r = record { r_offset = r.r_offset; r_info = info_of Little r.r_sym r.r_type }

abbrev pub rela_as32 : Reloc → Rela32
rela_as32 r = record {
  r_offset = r.r_offset;
  r_info = info_of Little r.r_sym r.r_type;
  r_addend = unwrap_or r.r_addend (pos 0);
}

abbrev pub rel_as64 : Reloc → Rel64
rel_as64 r = record { r_offset = r.r_offset; r_info = info_of Big r.r_sym r.r_type }

abbrev pub rela_as64 : Reloc → Rela64
rela_as64 r = record {
  r_offset = r.r_offset;
  r_info = info_of Big r.r_sym r.r_type;
  r_addend = unwrap_or r.r_addend (pos 0);
}

-- there is an addend exactly if one is written, and it fits its width
abbrev pub AddendFits : Bool → ℕ → Option ℤ → Type 0
AddendFits false width addend = addend ≡ None
AddendFits true width addend = IsSomeAnd addend (FitsSigned width)

-- each field of a relocation is in the range that a class has for it
pub record RelocFits (is_rela : Bool) (class : Container) (r : Reloc) : Type 0 where
  pub offset : r.r_offset < 256 ^ word_size class
  pub symbol : r.r_sym < symbols class
  pub typ : r.r_type < types class
  pub addend : AddendFits is_rela (word_size class) r.r_addend

-- how the relocations of each class lie in bytes: as the raw ones of the class
abbrev pub raw_layout : Bool → Container → Endian → Layout Reloc
raw_layout false Little order = widened rel_widened32 rel_as32 (shaped rel32 order)
raw_layout true Little order = widened rela_widened32 rela_as32 (rela32_layout order)
raw_layout false Big order = widened rel_widened64 rel_as64 (shaped rel64 order)
raw_layout true Big order = widened rela_widened64 rela_as64 (rela64_layout order)

-- how relocations lie in bytes, with an addend or without, in a class
abbrev pub reloc_layout : Bool → Container → Endian → Layout Reloc
reloc_layout is_rela class order =
    record (raw_layout is_rela class order) { size = reloc_size is_rela class; Fits = RelocFits is_rela class }

-- the relocation read from bytes, with an addend or without, in a class
abbrev pub reloc_of : Bool → Container → Endian → List ℕ → Reloc
reloc_of is_rela class order = (reloc_layout is_rela class order).read

-- the bytes that a relocation is written as
abbrev pub reloc_image : Bool → Container → Endian → Reloc → List ℕ
reloc_image is_rela class order = (reloc_layout is_rela class order).image

-- a relocation has the low bits of the offset, the symbol and the type of another one, as many as a class holds
abbrev pub KeepsLow : Container → (whole low : Reloc) → Type 0
KeepsLow Little whole low =
    (low.r_offset ≡ whole.r_offset % 2 ^ 32) × (low.r_sym ≡ whole.r_sym % 2 ^ 24) × (low.r_type ≡ whole.r_type % 2 ^ 8)
KeepsLow Big whole low =
    (low.r_offset ≡ whole.r_offset % 2 ^ 64) × (low.r_sym ≡ whole.r_sym % 2 ^ 32)
    × (low.r_type ≡ whole.r_type % 2 ^ 32)

-- an addend is another one cut to a width, whose two's complement has the same low bits; 0 where that is missing; and
-- none where none is written
abbrev pub KeepsLowAddend : Bool → (width : ℕ) → (whole low : Option ℤ) → Type 0
KeepsLowAddend false width whole low = low ≡ None
KeepsLowAddend true width None low = low ≡ Some (pos 0)
KeepsLowAddend true width (Some (pos x)) low = low ≡ Some (signed_of width (x % 256 ^ width))
KeepsLowAddend true width (Some (negsuc x)) low = low ≡ Some (signed_of width (256 ^ width - 1 - x % 256 ^ width))

-- the relocation that a stored one means: in a little-endian MIPS64 file its symbol and type are decoded
abbrev pub as_meant : Bool → Reloc → Reloc
as_meant false r = r
as_meant true r = let pair = mips64el_pair (r.r_sym, r.r_type) in record r { r_sym = pair.0; r_type = pair.1 }

-- the relocation to store for one that is meant
abbrev pub as_stored : Bool → Reloc → Reloc
as_stored false r = r
as_stored true r =
    let pair = mips64el_pair_inverse (r.r_sym % 2 ^ 32, r.r_type) in
    record r { r_sym = pair.0; r_type = pair.1 }

-- the relocation to store fits; for MIPS64 its symbol and its type are words of 32 bits
abbrev pub StoredFits : Bool → Bool → Container → Reloc → Type 0
StoredFits false is_rela class r = RelocFits is_rela class r
StoredFits true is_rela class r = (r.r_sym < 2 ^ 32) × (r.r_type < 2 ^ 32) × RelocFits is_rela class (as_stored true r)

-- the context of these parts
abbrev pub context : Bool → Container → Endian → Bool → RelocCtx
context is_rela class order is_mips64el = record {
  is_rela = is_rela;
  ctx = record { container = class; le = order };
  is_mips64el = is_mips64el;
}

-- how relocations lie in bytes in a context
abbrev pub reloc_layout_in : RelocCtx → Layout Reloc
reloc_layout_in c =
    converted (as_meant c.is_mips64el) (as_stored c.is_mips64el) (StoredFits c.is_mips64el c.is_rela c.ctx.container)
    (reloc_layout c.is_rela c.ctx.container c.ctx.le)

-- the relocation read from bytes in a context
abbrev pub reloc_in : RelocCtx → List ℕ → Reloc
reloc_in c = (reloc_layout_in c).read

-- the bytes that a relocation is written as in a context
abbrev pub reloc_image_in : RelocCtx → Reloc → List ℕ
reloc_image_in c = (reloc_layout_in c).image

-- relocations that fit both classes, written one after another in either class and order, are read in that class and
-- order as the same relocations; with addends and without, of MIPS64 and not
abbrev pub SameInEachClass : Type 0
SameInEachClass =
    (is_rela is_mips64el : Bool)
    → IsSameInEachClass (λ class order. reloc_layout_in (context is_rela class order is_mips64el))

-- the default relocation: all fields 0, without an addend
abbrev pub reloc_zero : Reloc
reloc_zero = record { r_offset = 0; r_addend = None; r_sym = 0; r_type = 0 }

-- the default context: without addends, not of MIPS64, of the 64-bit class and little endian
abbrev pub reloc_ctx_default : RelocCtx
reloc_ctx_default = record { is_rela = false; ctx = record { container = Big; le = order.Little }; is_mips64el = false }
