-- Laws of relocations of each class, with an addend or without, of MIPS64 or not: written relocations are read back,
-- and relocations that were read are written back.
use Rattle.std.specs.Prelude.{ℤ, pos, negsuc, unwrap_or, None, IsSomeAnd}
use Rattle.std.proofs.Common.{refl, lit<, ◌∙◌, arith, sym, ap, ◌<◌, ◌^◌, ◌≡◌, ◌*◌, ℕ, Bool, true, false, Option, Some}
use Rattle.std.proofs.Common.{subst}
use Rattle.goblin_records.specs.Common.{Container, Endian, IsRecord, shaped, number_at, Little, Big, FitsSigned, Reloc}
use Rattle.goblin_records.specs.Common.{RelocCtx, shape_laws, plain_laws, converted_laws, same_in_each_class}
use Rattle.goblin_records.specs.Common.{signed_low, word_size, widths}
use Rattle.std.proofs.Math.Nat.{mod-eq_of_lt, one-le-pow}
use Rattle.goblin_base.specs.SignedLaws.{signed_of-complement, complement-lt, complement-mod}
use Rattle.goblin_base.specs.SignedLaws.{complement-signed_number_at, signed_of-fits}
use Rattle.goblin_base.specs.FieldLaws.{FieldsFit-fields_at}
use Rattle.goblin_records.specs.Reloc.{rel32, rel64, rela32, rela64, rela32_layout, rela64_layout}
use Rattle.goblin_records.specs.Reloc.{reloc_layout, reloc_layout_in, RelocFits, rel_widened32, rela_widened32}
use Rattle.goblin_records.specs.Reloc.{rel_widened64, rela_widened64, rel_as32, rela_as32, rel_as64, rela_as64}
use Rattle.goblin_records.specs.Reloc.{as_meant, as_stored, StoredFits, context, SameInEachClass, AddendFits, split}
use Rattle.goblin_records.specs.Reloc.{KeepsLow, KeepsLowAddend}
use Rattle.goblin_records.specs.RelocInfo.{symbols, types, symbol_in, type_in, info_of}
use Rattle.goblin_records.specs.RelocInfoLaws.{info_of-parts, joins_its_parts, reversed-lt, reversed-reversed}

-- the laws of relocations without an addend follow from the list of fields
pub rel32_laws : (order : Endian) → IsRecord (shaped rel32 order)
rel32_laws = plain_laws rel32 (lit< tt) (λ r. refl) (λ r. refl) (λ order bytes. refl)

pub rel64_laws : (order : Endian) → IsRecord (shaped rel64 order)
rel64_laws = plain_laws rel64 (lit< tt) (λ r. refl) (λ r. refl) (λ order bytes. refl)

-- and so do those of relocations with one
pub rela32_laws : (order : Endian) → IsRecord (rela32_layout order)
rela32_laws = shape_laws rela32 (record {
  size_positive = lit< tt;
  has_widths = λ r. refl;
  lows = λ r. rw (complement-mod 4 r.r_addend) refl;
  fitting = λ r fits.
      ((fits.0, (fits.1, (complement-lt 4 r.r_addend, tt))), rw (signed_of-complement 4 r.r_addend fits.2) refl);
  fields_read = λ order bytes are room. rw (complement-signed_number_at order bytes 8 4 are room) refl;
  reads_fit =
      λ order bytes are room.
      let fit = FieldsFit-fields_at order bytes 0 (widths rela32) are room in
      (fit.0, fit.1.0, (signed_of-fits 4 (number_at order bytes 8 4) fit.1.1.0).1);
})

pub rela64_laws : (order : Endian) → IsRecord (rela64_layout order)
rela64_laws = shape_laws rela64 (record {
  size_positive = lit< tt;
  has_widths = λ r. refl;
  lows = λ r. rw (complement-mod 8 r.r_addend) refl;
  fitting = λ r fits.
      ((fits.0, (fits.1, (complement-lt 8 r.r_addend, tt))), rw (signed_of-complement 8 r.r_addend fits.2) refl);
  fields_read = λ order bytes are room. rw (complement-signed_number_at order bytes 16 8 are room) refl;
  reads_fit =
      λ order bytes are room.
      let fit = FieldsFit-fields_at order bytes 0 (widths rela64) are room in
      (fit.0, fit.1.0, (signed_of-fits 8 (number_at order bytes 16 8) fit.1.1.0).1);
})

-- a symbol and a type that fit are the parts of their `r_info`, which is in range; and so is the offset
fits_parts : (is_rela : Bool) (class : Container) (r : Reloc) → RelocFits is_rela class r → let info =
    info_of class r.r_sym r.r_type in
    (r.r_offset < 256 ^ word_size class) × (info < symbols class * types class) × (symbol_in class info ≡ r.r_sym)
    × (type_in class info ≡ r.r_type)
fits_parts is_rela class r fits =
    let parts = info_of-parts class r.r_sym r.r_type in
    (fits.offset, parts.0, parts.1 ∙ mod-eq_of_lt fits.symbol, parts.2 ∙ mod-eq_of_lt fits.typ)

-- an addend that is present is the one that is written
some_fits : (width : ℕ) (addend : Option ℤ)
    → IsSomeAnd addend (FitsSigned width)
    → FitsSigned width (unwrap_or addend (pos 0)) × (Some (unwrap_or addend (pos 0)) ≡ addend)
some_fits width addend h = grind arith

-- a relocation whose offset, `r_info` and addend are in range fits
split_fits : (is_rela : Bool) (class : Container) {offset info : ℕ} {addend : Option ℤ}
    → offset < 256 ^ word_size class → info < symbols class * types class
    → AddendFits is_rela (word_size class) addend → RelocFits is_rela class (split class offset addend info)
split_fits is_rela Little o i a = record { offset = o; symbol = omega arith; typ = omega arith; addend = a }
split_fits is_rela Big o i a = record { offset = o; symbol = omega arith; typ = omega arith; addend = a }

-- a relocation of either class, with an addend or without, is a converted raw one
pub reloc_laws : (is_rela : Bool) (class : Container) (order : Endian) → IsRecord (reloc_layout is_rela class order)
reloc_laws false Little order =
    converted_laws rel_widened32 rel_as32 (RelocFits false Little) (rel32_laws order)
    (λ r fits. let parts = fits_parts false Little r fits in
    ((parts.0, (parts.1, tt)), rw (parts.2, parts.3, ← fits.addend) refl))
    (λ raw fit. (split_fits false Little fit.0 fit.1.0 refl, rw (joins_its_parts Little raw.r_info fit.1.0) refl))
reloc_laws true Little order =
    converted_laws rela_widened32 rela_as32 (RelocFits true Little) (rela32_laws order)
    (λ r fits. let parts = fits_parts true Little r fits in
    let some = some_fits 4 r.r_addend fits.addend in
    ((parts.0, parts.1, some.0), rw (parts.2, parts.3, some.1) refl))
    (λ raw fit. (split_fits true Little fit.0 fit.1 fit.2, rw (joins_its_parts Little raw.r_info fit.1) refl))
reloc_laws false Big order =
    converted_laws rel_widened64 rel_as64 (RelocFits false Big) (rel64_laws order)
    (λ r fits. let parts = fits_parts false Big r fits in
    ((parts.0, (parts.1, tt)), rw (parts.2, parts.3, ← fits.addend) refl))
    (λ raw fit. (split_fits false Big fit.0 fit.1.0 refl, rw (joins_its_parts Big raw.r_info fit.1.0) refl))
reloc_laws true Big order =
    converted_laws rela_widened64 rela_as64 (RelocFits true Big) (rela64_laws order)
    (λ r fits. let parts = fits_parts true Big r fits in
    let some = some_fits 8 r.r_addend fits.addend in
    ((parts.0, parts.1, some.0), rw (parts.2, parts.3, some.1) refl))
    (λ raw fit. (split_fits true Big fit.0 fit.1 fit.2, rw (joins_its_parts Big raw.r_info fit.1) refl))

-- the low bits of a relocation, in plain numbers
pub keeps_low : (is_rela : Bool) (class : Container) (order : Endian) (r : Reloc)
    → KeepsLow class r ((reloc_layout is_rela class order).low r)
keeps_low false Little order r = (refl, omega arith, omega arith)
keeps_low true Little order r = (refl, omega arith, omega arith)
keeps_low false Big order r = (refl, omega arith, omega arith)
keeps_low true Big order r = (refl, omega arith, omega arith)

-- and of its addend
cut_addend : (width : ℕ) (addend : Option ℤ)
    → KeepsLowAddend true width addend (Some (signed_low width (unwrap_or addend (pos 0))))
cut_addend width None =
    let fits : FitsSigned width (pos 0) = omega (arith, one-le-pow width 256 (omega arith)) in
    ap (λ z. Some z) (signed_of-complement width (pos 0) fits)
cut_addend width (Some (pos x)) = refl
cut_addend width (Some (negsuc x)) = refl

pub keeps_low_addend : (is_rela : Bool) (class : Container) (order : Endian) (r : Reloc)
    → KeepsLowAddend is_rela (word_size class) r.r_addend ((reloc_layout is_rela class order).low r).r_addend
keeps_low_addend false Little order r = refl
keeps_low_addend true Little order r = cut_addend 4 r.r_addend
keeps_low_addend false Big order r = refl
keeps_low_addend true Big order r = cut_addend 8 r.r_addend

-- the symbol and the type of a relocation that fits are words of 32 bits
words : (is_rela : Bool) (class : Container) (r : Reloc)
    → RelocFits is_rela class r → (r.r_sym < 2 ^ 32) × (r.r_type < 2 ^ 32)
words is_rela Little r fits = (omega (arith, fits.symbol), omega (arith, fits.typ))
words is_rela Big r fits = (fits.symbol, fits.typ)

-- the relocation to store for one means that one
meant-stored : (r : Reloc) → r.r_sym < 2 ^ 32 → r.r_type < 2 ^ 32 → as_meant true (as_stored true r) ≡ r
meant-stored r s t = rw (mod-eq_of_lt s, reversed-reversed r.r_type t) refl

-- and the relocation to store for the meaning of one is that one
stored-meant : (r : Reloc) → r.r_sym < 2 ^ 32 → r.r_type < 2 ^ 32 → as_stored true (as_meant true r) ≡ r
stored-meant r s t = rw (mod-eq_of_lt t, reversed-reversed r.r_sym s) refl

-- relocations of MIPS64 obey the same laws
stored_laws : (is_mips64el is_rela : Bool) (class : Container) (order : Endian)
    → IsRecord (reloc_layout_in (context is_rela class order is_mips64el))
stored_laws false is_rela class order = reloc_laws is_rela class order
stored_laws true is_rela class order =
    converted_laws (as_meant true) (as_stored true) (StoredFits true is_rela class) (reloc_laws is_rela class order)
    (λ r fits. (fits.2, meant-stored r fits.0 fits.1))
    (λ r fits. let w = words is_rela class r fits in
    let same = stored-meant r w.0 w.1 in
    ((w.1, reversed-lt r.r_sym, subst (RelocFits is_rela class) (sym same) fits), same))

pub reloc_laws_in : (c : RelocCtx) → IsRecord (reloc_layout_in c)
reloc_laws_in c = stored_laws c.is_mips64el c.is_rela c.ctx.container c.ctx.le

pub same_in_classes : SameInEachClass
same_in_classes is_rela is_mips64el = same_in_each_class (λ class order. stored_laws is_mips64el is_rela class order)

-- for the laws of relocations
pub ruleset whole_laws = (same_in_classes, keeps_low, keeps_low_addend)
