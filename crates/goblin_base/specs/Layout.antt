-- What every record obeys: its layout, and the laws of reading and writing it.
use Rattle.std.specs.Prelude.{◌≡◌, ◌↔◌, ◌≤◌, ◌<◌, ◌%◌, ◌^◌, ℕ, List, ◌++◌, [], ◌∷◌, All, flat_map, length, map, take}
use Rattle.std.specs.Prelude.{Result}
use Rattle.goblin_base.specs.declared.container.Container.{Container}
use Rattle.goblin_base.specs.declared.container.Container.TheVariants.{Little, Big}
use Rattle.goblin_base.specs.declared.container.Endian.{Endian}
use Rattle.goblin_base.specs.declared.error.Error.{Error}
use Rattle.goblin_base.specs.Fields.{Field, FieldsFit, image_of_fields, values_at, fields_at, total, widths_of}
use Rattle.goblin_base.specs.Fields.{values_of, lows_of}
use Rattle.goblin_base.specs.Number.{IsBytes, number_at}
use Rattle.goblin_base.specs.Record.{Writes, records}

-- the size of an address in bytes (System V gABI, "Data Representation": Elf32_Addr and Elf64_Addr)
abbrev pub word_size : Container → ℕ
word_size Little = 4
word_size Big = 8

-- how records lie in bytes: the size of one, how it is read and written, its low bits, and which ones fit their widths
pub record Layout (R : Type 0) : Type 1 where
  pub size : ℕ
  pub read : List ℕ → R
  pub image : R → List ℕ
  pub low : R → R
  pub Fits : R → Type 0

-- the shape of a record: its fields in file order, and the record with these field values; a missing value is 0
--
--     bytes   | field 0 | field 1 | .. | more bytes
--     widths    w0        w1        ..
pub record Shape (R : Type 0) : Type 0 where
  pub fields : R → List Field
  pub of_values : List ℕ → R

-- the record of a shape whose fields are all 0
abbrev pub zero : {R : Type 0} → Shape R → R
zero s = s.of_values []

-- the widths of the fields of a shape
abbrev pub widths : {R : Type 0} → Shape R → List ℕ
widths s = widths_of (s.fields (zero s))

-- the record with the low bits of each field, as many as its width holds
abbrev pub low_bits : {R : Type 0} → Shape R → R → R
low_bits s x = s.of_values (lows_of (s.fields x))

-- records of a shape in a byte order: each field is the number at its offset
abbrev pub shaped : {R : Type 0} → Shape R → Endian → Layout R
shaped s order = record {
  size = total (widths s);
  read = λ bytes. s.of_values (values_at order bytes 0 (widths s));
  image = λ x. image_of_fields order (s.fields x);
  low = low_bits s;
  Fits = λ x. FieldsFit (s.fields x);
}

-- records that are read and written as others: `widen` after reading, `narrow` before writing; with those that fit
abbrev pub converted : {A B : Type 0} → (A → B) → (B → A) → (B → Type 0) → Layout A → Layout B
converted widen narrow BothFit l = record {
  size = l.size;
  read = λ bytes. widen (l.read bytes);
  image = λ x. l.image (narrow x);
  low = λ x. widen (l.low (narrow x));
  Fits = BothFit;
}

-- records that are read and written as others, and fit if these do
abbrev pub widened : {A B : Type 0} → (A → B) → (B → A) → Layout A → Layout B
widened widen narrow l = converted widen narrow (λ x. l.Fits (narrow x)) l

-- each record that was read fits
abbrev pub EachReadFits : {R : Type 0} → Layout R → Type 0
EachReadFits l = (bytes : List ℕ) → IsBytes bytes → l.size ≤ length bytes → l.Fits (l.read bytes)

-- what a shape must state; `low` keeps the low bits of each field, and `Fits` says that each is in the range of its
-- width
pub record IsShape {R : Type 0} (s : Shape R) (low : R → R) (Fits : R → Type 0) : Type 0 where
  -- there is at least one byte
  pub size_positive : 0 < total (widths s)
  -- the fields of all records have the same widths
  pub has_widths : (x : R) → widths_of (s.fields x) ≡ widths s
  -- `low x` is the record of the low bits of the fields of `x`
  pub lows : (x : R) → low_bits s x ≡ low x
  -- the fields of a record that fits are in range, and make the same record
  pub fitting : (x : R) → Fits x → FieldsFit (s.fields x) × (s.of_values (values_of (s.fields x)) ≡ x)
  -- the fields of a record that was read are the numbers in the bytes
  pub fields_read : (order : Endian) (bytes : List ℕ)
      → IsBytes bytes → total (widths s) ≤ length bytes
      → s.fields ((shaped s order).read bytes) ≡ fields_at order bytes 0 (widths s)
  -- a record that was read fits
  pub reads_fit : (order : Endian) → EachReadFits (record (shaped s order) { Fits = Fits })

-- the laws of records of a layout
pub record IsRecord {R : Type 0} (l : Layout R) : Type 0 where
  -- a record has at least one byte
  pub size_positive : 0 < l.size
  -- the image has the size of a record
  pub length_image : (x : R) → length (l.image x) ≡ l.size
  -- each number of the image is a byte
  pub image_bytes : (x : R) → IsBytes (l.image x)
  -- reading depends on the bytes of a record only
  pub reads_front : (bytes more : List ℕ) → l.size ≤ length bytes → l.read (bytes ++ more) ≡ l.read bytes
  -- a record that fits is read back
  pub reads_back : (x : R) → l.Fits x → l.read (l.image x) ≡ x
  -- of any record the low bits are read back
  pub reads_low : (x : R) → l.read (l.image x) ≡ l.low x
  -- bytes that were read are written back as they were
  pub writes_back : (bytes : List ℕ)
      → IsBytes bytes → l.size ≤ length bytes → l.image (l.read bytes) ≡ take l.size bytes
  -- a record that was read fits
  pub reads_fit : EachReadFits l

-- what every type of records obeys: the laws of reading and writing, and what its writer does
pub record Obeys {R : Type 0} (size : ℕ) (read : List ℕ → R) (image : R → List ℕ) (Fits : R → Type 0)
    (writes : R → List ℕ → Result ℕ Error → List ℕ → Type 0) : Type 0 where
  pub low : R → R
  pub is_record : IsRecord (record { size = size; read = read; image = image; low = low; Fits = Fits })
  -- writing puts the image at the start and changes no other byte, or it fails and changes nothing
  pub writes_image : (x : R) (old new : List ℕ) (answer : Result ℕ Error)
      → writes x old answer new → Writes size (image x) old answer new

-- the image of a record is the only list of bytes of its size that is read as the record's low bits
abbrev pub IsOneImage : {R : Type 0} → Layout R → Type 0
IsOneImage {R = R} l =
    (x : R) (bytes : List ℕ)
    → (bytes ≡ l.image x) ↔ (IsBytes bytes × (length bytes ≡ l.size) × (l.read bytes ≡ l.low x))

-- a record fits exactly if each field is its own low bits
abbrev pub FitsExactly : {R : Type 0} → Layout R → Type 0
FitsExactly {R = R} l = (x : R) → l.Fits x ↔ (l.low x ≡ x)

-- of each number the low bits that its place holds, which is an offset and a width in bytes
abbrev pub lows_at : List (ℕ × ℕ) → List ℕ → List ℕ
lows_at (place ∷ places) (value ∷ values) = value % 256 ^ place.1 ∷ lows_at places values
lows_at _ _ = []

-- The fields of a record that was read are the numbers at these places, in either byte order. Of one that doesn't fit,
-- each field's low bits are kept.
abbrev pub HasFields : {R : Type 0} → (Endian → Layout R) → (R → List ℕ) → List (ℕ × ℕ) → Type 0
HasFields {R = R} layout fields places =
    (order : Endian)
    → ((bytes : List ℕ)
    → fields ((layout order).read bytes) ≡ map (λ place. number_at order bytes place.0 place.1) places)
    × ((x : R) → fields ((layout order).low x) ≡ lows_at places (fields x))

-- the parts of a record are made of numbers, each at its offset and of its width, in either byte order
abbrev pub HasPlaces : {R : Type 0} → (Endian → Layout R) → ((ℕ → ℕ → ℕ) → R → Type 0) → Type 0
HasPlaces layout Are = (order : Endian) (bytes : List ℕ) → Are (number_at order bytes) ((layout order).read bytes)

-- records that fit both classes, written in either class and byte order, are read back in that class and order
abbrev pub IsSameInEachClass : {R : Type 0} → (Container → Endian → Layout R) → Type 0
IsSameInEachClass {R = R} layout =
    (class : Container) (order : Endian) (all : List R)
    → All ((layout Little order).Fits) all → All ((layout Big order).Fits) all
    → let l = layout class order in records l.size l.read (length all) (flat_map l.image all) ≡ all
