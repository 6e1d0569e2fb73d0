-- The laws of records, from their layout; and of records that are read and written as other ones.
use Rattle.goblin_base.specs.Common.{refl, sym, ap, ◌∙◌, arith, subst, Endian, take_all}
use Rattle.std.proofs.Common.{◌≡◌, ◌≤◌, ◌<◌, ◌+◌, ℕ, List, [], ◌∷◌, ◌++◌, length, take}
use Rattle.goblin_base.specs.declared.container.Container.{Container}
use Rattle.goblin_base.specs.declared.container.Container.TheVariants.{Little, Big}
use Rattle.goblin_base.specs.Fields.{Field, values_at, fields_at, total, widths_of, values_of, size_of_fields}
use Rattle.goblin_base.specs.Fields.{image_of_fields, FieldsFit}
use Rattle.goblin_base.specs.FieldLaws.{values_at-append, values_at-image_low, lows_of-fits, image-fields_at}
use Rattle.goblin_base.specs.FieldLaws.{length-image_of_fields, IsBytes-image_of_fields, FieldsFit-fields_at}
use Rattle.goblin_base.specs.Layout.{Shape, shaped, widths, IsShape, Layout, converted, widened, IsRecord, Obeys}
use Rattle.goblin_base.specs.Layout.{IsOneImage, IsSameInEachClass, FitsExactly}
use Rattle.goblin_base.specs.Number.{IsBytes}
use Rattle.goblin_base.specs.Record.{Writes}
use Rattle.goblin_base.specs.TableLaws.{records-flat_map}

-- the size of fields is the sum of their widths
pub size_of_fields-is : (fields : List Field) → size_of_fields fields ≡ total (widths_of fields)
size_of_fields-is [] = refl
size_of_fields-is (f ∷ fields) = ap (λ (n : ℕ). f.width + n) (size_of_fields-is fields)

module _ {R : Type 0} {low : R → R} {Fits : R → Type 0} (s : Shape R) (is : IsShape s low Fits) (order : Endian) where
  abbrev read : List ℕ → R
  read = (shaped s order).read

  abbrev image : R → List ℕ
  image = (shaped s order).image

  length-image : (x : R) → length (image x) ≡ total (widths s)
  length-image x =
      length-image_of_fields order (s.fields x) ∙ size_of_fields-is (s.fields x) ∙ ap total (is.has_widths x)

  read-append : (bytes more : List ℕ) → total (widths s) ≤ length bytes → read (bytes ++ more) ≡ read bytes
  read-append bytes more room = ap (s.of_values) (values_at-append order bytes more 0 (widths s) (omega arith))

  read-image_low : (x : R) → read (image x) ≡ low x
  read-image_low x =
      ap (λ (ws : List ℕ). s.of_values (values_at order (image x) 0 ws)) (sym (is.has_widths x))
      ∙ ap (s.of_values) (values_at-image_low order (s.fields x))
      ∙ is.lows x

  read-image : (x : R) → Fits x → read (image x) ≡ x
  read-image x fits =
      let fit = is.fitting x fits in
      read-image_low x ∙ sym (is.lows x) ∙ ap (s.of_values) (lows_of-fits (s.fields x) fit.0) ∙ fit.1

  image-read : (bytes : List ℕ)
      → IsBytes bytes → total (widths s) ≤ length bytes → image (read bytes) ≡ take (total (widths s)) bytes
  image-read bytes are room =
      ap (image_of_fields order) (is.fields_read order bytes are room)
      ∙ image-fields_at order bytes 0 (widths s) are (omega arith)

  -- records of a shape obey the laws of records
  pub shape_laws : IsRecord (record (shaped s order) { low = low; Fits = Fits })
  shape_laws = record {
    size_positive = is.size_positive;
    length_image = length-image;
    image_bytes = λ x. IsBytes-image_of_fields order (s.fields x);
    reads_front = read-append;
    reads_back = read-image;
    reads_low = read-image_low;
    writes_back = image-read;
    reads_fit = is.reads_fit order;
  }

-- so do records of a shape whose fields are numbers that make the same record
pub plain_laws : {R : Type 0} (s : Shape R)
    → 0 < total (widths s) → ((x : R) → widths_of (s.fields x) ≡ widths s)
    → ((x : R) → s.of_values (values_of (s.fields x)) ≡ x)
    → ((order : Endian) (bytes : List ℕ) → s.fields ((shaped s order).read bytes) ≡ fields_at order bytes 0 (widths s))
    → (order : Endian) → IsRecord (shaped s order)
plain_laws s positive same whole read = shape_laws s (record {
  size_positive = positive;
  has_widths = same;
  lows = λ x. refl;
  fitting = λ x fits. (fits, whole x);
  fields_read = λ order bytes are room. read order bytes;
  reads_fit =
      λ order bytes are room.
      subst FieldsFit (sym (read order bytes)) (FieldsFit-fields_at order bytes 0 (widths s) are (omega arith));
})

-- records that are read and written as others obey the laws, if those that fit are the same in either direction
pub converted_laws : {A B : Type 0} {l : Layout A} (widen : A → B) (narrow : B → A) (BothFit : B → Type 0)
    → IsRecord l → ((x : B) → BothFit x → l.Fits (narrow x) × (widen (narrow x) ≡ x))
    → ((raw : A) → l.Fits raw → BothFit (widen raw) × (narrow (widen raw) ≡ raw))
    → IsRecord (converted widen narrow BothFit l)
converted_laws {l = l} widen narrow BothFit laws there back = record {
  size_positive = laws.size_positive;
  length_image = λ x. laws.length_image (narrow x);
  image_bytes = λ x. laws.image_bytes (narrow x);
  reads_front = λ bytes more room. ap widen (laws.reads_front bytes more room);
  reads_back = λ x fits. let is = there x fits in ap widen (laws.reads_back (narrow x) is.0) ∙ is.1;
  reads_low = λ x. ap widen (laws.reads_low (narrow x));
  writes_back =
      λ bytes are room.
      ap (l.image) (back (l.read bytes) (laws.reads_fit bytes are room)).1 ∙ laws.writes_back bytes are room;
  reads_fit = λ bytes are room. (back (l.read bytes) (laws.reads_fit bytes are room)).0;
}

pub widened_laws : {A B : Type 0} {l : Layout A} (widen : A → B) (narrow : B → A)
    → IsRecord l → ((x : B) → widen (narrow x) ≡ x) → ((raw : A) → narrow (widen raw) ≡ raw)
    → IsRecord (widened widen narrow l)
widened_laws {l = l} widen narrow laws back there =
    converted_laws widen narrow (λ x. l.Fits (narrow x)) laws (λ x fits. (fits, back x))
    (λ raw fit. (subst (l.Fits) (sym (there raw)) fit, there raw))

module _ {R : Type 0} {l : Layout R} (laws : IsRecord l) where
  -- records that are written as their image obey all laws
  pub obeys : Obeys (l.size) (l.read) (l.image) (l.Fits) (λ x. Writes (l.size) (l.image x))
  obeys = record { low = l.low; is_record = laws; writes_image = λ x old new answer so. so }

  -- a record that is its own low bits was read from its image
  pub fits_exactly : FitsExactly l
  fits_exactly x = (
    λ fits. sym (laws.reads_low x) ∙ laws.reads_back x fits,
    λ is. subst (l.Fits) (laws.reads_low x ∙ is) (laws.reads_fit (l.image x) (laws.image_bytes x) (omega arith)),
  )

  image-of_read : (bytes : List ℕ) → IsBytes bytes → length bytes ≡ l.size → bytes ≡ l.image (l.read bytes)
  image-of_read bytes are long =
      sym (take_all (l.size) bytes (omega arith)) ∙ sym (laws.writes_back bytes are (omega arith))

  -- writing the low bits only writes the same image
  pub image-low : (x : R) → l.image (l.low x) ≡ l.image x
  image-low x =
      ap (l.image) (sym (laws.reads_low x))
      ∙ sym (image-of_read (l.image x) (laws.image_bytes x) (laws.length_image x))

  -- no bytes but the image are read as the low bits
  pub one_image : IsOneImage l
  one_image x bytes = (
    λ is. rw is (laws.image_bytes x, laws.length_image x, laws.reads_low x),
    λ h. image-of_read bytes h.0 h.1 ∙ ap (l.image) h.2 ∙ image-low x,
  )

-- records that fit both classes are read back in each
pub same_in_each_class : {R : Type 0} {layout : Container → Endian → Layout R}
    → ((class : Container) (order : Endian) → IsRecord (layout class order)) → IsSameInEachClass layout
same_in_each_class {layout = layout} laws Little order all fits32 fits64 =
    let is = laws Little order in
    let l = layout Little order in
    records-flat_map (l.size) (l.read) (l.image) (l.Fits) is.length_image is.reads_back all fits32
same_in_each_class {layout = layout} laws Big order all fits32 fits64 =
    let is = laws Big order in
    let l = layout Big order in
    records-flat_map (l.size) (l.read) (l.image) (l.Fits) is.length_image is.reads_back all fits64
