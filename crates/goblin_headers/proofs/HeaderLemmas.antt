-- Headers of each class and of both: an identification as it is, followed by numbers of given widths.
--
-- The laws are proved once, for any header that is an identification and then numbers (`headed_laws`): the numbers by
-- the laws of fields, the identification because it is the first 16 bytes. A header of either class has them because
-- widening and narrowing undo each other (`widened_laws`). What bytes are read as a header follows from the laws alone
-- (`one_header_image`).
use Rattle.goblin_headers.proofs.Common.{common_steps, ◌≡◌, ◌≤◌, ℕ, List, [], ◌++◌, length, take, refl, sym, ap, ◌∙◌}
use Rattle.goblin_headers.proofs.Common.{arith, Container, Endian, Field, image_of_fields, values_at, fields_at, total}
use Rattle.goblin_headers.proofs.Common.{widths_of, values_of, lows_of, Layout, widened, IsBytes, headed, header32}
use Rattle.goblin_headers.proofs.Common.{header64, header_layout, as32, as64, widened32, widened64, subst}
use Rattle.std.proofs.Math.Seq.{take-add}
use Rattle.std.proofs.lemmas.List.{append_assoc, append-nil, length-append, take_at}
use Rattle.goblin_base.specs.FieldLaws.{values_at-image, lows_of-fits, image-fields_at, length-image_of_fields}
use Rattle.goblin_base.specs.FieldLaws.{IsBytes-image_of_fields, FieldsFit-fields_at}
use Rattle.goblin_base.specs.Fields.{FieldsFit}
use Rattle.goblin_base.specs.Layout.{EachReadFits}
use Rattle.goblin_base.specs.LayoutLaws.{size_of_fields-is}
use Rattle.goblin_base.specs.NumberLaws.{IsBytes-append}
use Rattle.goblin_headers.specs.Header.{HeaderShape, field_widths}
use Rattle.goblin_headers.specs.HeaderTrips.{HeadersFit, IdentIsWritten, IsOneHeaderImage}
use Rattle.goblin_base.specs.declared.container.Container.TheVariants as class

-- headers that begin with an identification, and what holds of reading and writing them
pub record IsHeader {R : Type 0} (ident : R → List ℕ) (l : Layout R) : Type 0 where
  -- a header holds an identification
  pub enough : 16 ≤ l.size
  -- its image begins with it
  pub after_ident : R → List ℕ
  pub image_is : (h : R) → l.image h ≡ ident h ++ after_ident h
  pub ident_read : (bytes : List ℕ) → ident (l.read bytes) ≡ take 16 bytes
  -- the image has the size of a header and consists of bytes
  pub length_image : (h : R) → length (ident h) ≡ 16 → length (l.image h) ≡ l.size
  pub image_bytes : (h : R) → IsBytes (ident h) → IsBytes (l.image h)
  -- the low bits are read back, so a header that fits is read back unchanged, whatever bytes follow
  pub reads_low : (h : R) (rest : List ℕ) → length (ident h) ≡ 16 → l.read (l.image h ++ rest) ≡ l.low h
  pub low_fits : (h : R) → l.Fits h → l.low h ≡ h
  -- bytes that were read are written back
  pub writes_back : (bytes : List ℕ)
      → IsBytes bytes → l.size ≤ length bytes → l.image (l.read bytes) ≡ take l.size bytes
  -- a header that was read fits
  pub reads_fit : EachReadFits l

-- a shape must state that the fields of all headers have the same widths and make the same header, with its
-- identification, and that the fields that were read are the numbers in the bytes
module _ {R : Type 0} (s : HeaderShape R)
    (has_ident : (ident values : List ℕ) → s.ident (s.of_values ident values) ≡ ident)
    (has_widths : (h : R) → widths_of (s.fields h) ≡ field_widths s)
    (whole : (h : R) → s.of_values (s.ident h) (values_of (s.fields h)) ≡ h)
    (fields_read : (order : Endian) (bytes : List ℕ)
    → s.fields ((headed s order).read bytes) ≡ fields_at order bytes 16 (field_widths s))
    (order : Endian) where
  abbrev l : Layout R
  l = headed s order

  ident-read : (bytes : List ℕ) → s.ident (l.read bytes) ≡ take 16 bytes
  ident-read bytes = has_ident (take 16 bytes) (values_at order bytes 16 (field_widths s))

  length-image : (h : R) → length (s.ident h) ≡ 16 → length (l.image h) ≡ l.size
  length-image h long =
      omega (
        arith,
        long,
        length-append (s.ident h) (image_of_fields order (s.fields h)),
        length-image_of_fields order (s.fields h),
        size_of_fields-is (s.fields h),
        ap total (has_widths h),
      )

  read-image : (h : R) (rest : List ℕ) → length (s.ident h) ≡ 16 → l.read (l.image h ++ rest) ≡ l.low h
  read-image h rest long =
      let after = image_of_fields order (s.fields h) in
      let bytes = s.ident h ++ (after ++ rest) in
      let values : values_at order bytes 16 (field_widths s) ≡ lows_of (s.fields h) =
      ap (values_at order bytes 16) (sym (has_widths h))
      ∙ values_at-image order (s.fields h) (s.ident h) rest 16 long in
      ap (l.read) (append_assoc (s.ident h) after rest)
      ∙ ap (λ (i : List ℕ). s.of_values i (values_at order bytes 16 (field_widths s)))
      (take_at (s.ident h) (after ++ rest) 16 long)
      ∙ ap (s.of_values (s.ident h)) values

  image-read : (bytes : List ℕ) → IsBytes bytes → l.size ≤ length bytes → l.image (l.read bytes) ≡ take (l.size) bytes
  image-read bytes are room =
      ap (λ (i : List ℕ). i ++ image_of_fields order (s.fields (l.read bytes))) (ident-read bytes)
      ∙ ap (λ (all : List Field). take 16 bytes ++ image_of_fields order all) (fields_read order bytes)
      ∙ ap (λ (rest : List ℕ). take 16 bytes ++ rest) (image-fields_at order bytes 16 (field_widths s) are room)
      ∙ sym (take-add 16 (total (field_widths s)) bytes)

  headed_laws : IsHeader (s.ident) l
  headed_laws = record {
    enough = omega arith;
    after_ident = λ h. image_of_fields order (s.fields h);
    image_is = λ h. refl;
    ident_read = ident-read;
    length_image = length-image;
    image_bytes =
        λ h are.
        IsBytes-append (s.ident h) (image_of_fields order (s.fields h)) are
        (IsBytes-image_of_fields order (s.fields h));
    reads_low = read-image;
    low_fits = λ h fits. ap (s.of_values (s.ident h)) (lows_of-fits (s.fields h) fits) ∙ whole h;
    writes_back = image-read;
    reads_fit =
        λ bytes are room.
        subst FieldsFit (sym (fields_read order bytes)) (FieldsFit-fields_at order bytes 16 (field_widths s) are room);
  }

-- the fields of the headers of each class
pub header32_laws : (order : Endian) → IsHeader (λ h. h.e_ident) (headed header32 order)
header32_laws = headed_laws header32 (λ ident values. refl) (λ h. refl) (λ h. refl) (λ order bytes. refl)

pub header64_laws : (order : Endian) → IsHeader (λ h. h.e_ident) (headed header64 order)
header64_laws = headed_laws header64 (λ ident values. refl) (λ h. refl) (λ h. refl) (λ order bytes. refl)

-- headers that are read and written as other ones: `widen` is applied after reading, `narrow` before writing
widened_laws : {A B : Type 0} {ident : A → List ℕ} {l : Layout A} (widen : A → B) (narrow : B → A)
    → ((raw : A) → narrow (widen raw) ≡ raw) → ((h : B) → widen (narrow h) ≡ h)
    → IsHeader ident l → IsHeader (λ h. ident (narrow h)) (widened widen narrow l)
widened_laws {ident = ident} {l = l} widen narrow there back raw = record {
  enough = raw.enough;
  after_ident = λ h. raw.after_ident (narrow h);
  image_is = λ h. raw.image_is (narrow h);
  ident_read = λ bytes. ap ident (there (l.read bytes)) ∙ raw.ident_read bytes;
  length_image = λ h. raw.length_image (narrow h);
  image_bytes = λ h. raw.image_bytes (narrow h);
  reads_low = λ h rest long. ap widen (raw.reads_low (narrow h) rest long);
  low_fits = λ h fits. ap widen (raw.low_fits (narrow h) fits) ∙ back h;
  writes_back = λ bytes are room. ap (l.image) (there (l.read bytes)) ∙ raw.writes_back bytes are room;
  reads_fit = λ bytes are room. subst (l.Fits) (sym (there (l.read bytes))) (raw.reads_fit bytes are room);
}

-- a header of either class is the raw one of its class, widened
pub header_laws : (class : Container) (order : Endian) → IsHeader (λ h. h.e_ident) (header_layout class order)
header_laws class.Little order = widened_laws widened32 as32 (λ raw. refl) (λ h. refl) (header32_laws order)
header_laws class.Big order = widened_laws widened64 as64 (λ raw. refl) (λ h. refl) (header64_laws order)

module _ {R : Type 0} {ident : R → List ℕ} {l : Layout R} (laws : IsHeader ident l) where
  -- bytes of a header's size are the image of the header that is read from them
  image_of_read : (bytes : List ℕ) → IsBytes bytes → length bytes ≡ l.size → bytes ≡ l.image (l.read bytes)
  image_of_read bytes are long = grind (arith, common_steps)

  reads_alone : (h : R) → length (ident h) ≡ 16 → l.read (l.image h) ≡ l.low h
  reads_alone h long = ap (l.read) (sym (append-nil (l.image h))) ∙ laws.reads_low h [] long

  -- a header that is its own low bits was read from its image
  own_low_fits : (h : R) → length (ident h) ≡ 16 → IsBytes (ident h) → l.low h ≡ h → l.Fits h
  own_low_fits h long are is = grind (arith, reads_alone)

  -- only the low bits are written
  pub image-low : (h : R) → length (ident h) ≡ 16 → IsBytes (ident h) → l.image (l.low h) ≡ l.image h
  image-low h long are =
      ap (l.image) (sym (reads_alone h long))
      ∙ sym (image_of_read (l.image h) (laws.image_bytes h are) (laws.length_image h long))

-- the image is the only list of bytes that is read so
pub one_header_image : {R : Type 0} {ident : R → List ℕ} {layout : Endian → Layout R}
    → ((order : Endian) → IsHeader ident (layout order)) → IsOneHeaderImage ident layout
one_header_image {layout = layout} all order h bytes long are = grind (arith, reads_alone, image_of_read)

-- the image begins with the identification
pub ident_is_written : {R : Type 0} {ident : R → List ℕ} {layout : Endian → Layout R}
    → ((order : Endian) → IsHeader ident (layout order)) → IdentIsWritten ident layout
ident_is_written {ident = ident} all order h long =
    let laws = all order in ap (take 16) (laws.image_is h) ∙ take_at (ident h) (laws.after_ident h) 16 long

-- those that fit are those that are their own low bits
pub headers_fit : {R : Type 0} {ident : R → List ℕ} {layout : Endian → Layout R}
    → ((order : Endian) → IsHeader ident (layout order)) → HeadersFit ident layout
headers_fit all order = grind (arith, own_low_fits)
