-- The fields of a record: numbers of given widths that lie one after another.
use Rattle.std.specs.Prelude.{◌+◌, ◌%◌, ◌^◌, ◌<◌, ℕ, List, [], ◌∷◌, ◌++◌}
use Rattle.goblin_base.specs.declared.container.Endian.{Endian}
use Rattle.goblin_base.specs.Number.{number_at, spelled}

-- the size of a field in bytes, and its number
pub record Field : Type 0 where
  pub width : ℕ
  pub value : ℕ

-- the field with this width and value
abbrev pub field : ℕ → ℕ → Field
field width value = record { width = width; value = value }

-- the size of fields in bytes
abbrev pub size_of_fields : List Field → ℕ
size_of_fields [] = 0
size_of_fields (f ∷ fields) = f.width + size_of_fields fields

-- each value is in the range of its width
abbrev pub FieldsFit : List Field → Type 0
FieldsFit [] = Unit {0}
FieldsFit (f ∷ fields) = (f.value < 256 ^ f.width) × FieldsFit fields

-- the bytes of the fields, one after another
unfoldable pub image_of_fields : Endian → List Field → List ℕ
image_of_fields order [] = []
image_of_fields order (f ∷ fields) = spelled order f.width f.value ++ image_of_fields order fields

-- the numbers of these widths, one after another from an offset on
abbrev pub values_at : Endian → List ℕ → ℕ → List ℕ → List ℕ
values_at order bytes place [] = []
values_at order bytes place (w ∷ widths) = number_at order bytes place w ∷ values_at order bytes (place + w) widths

-- these numbers, as fields
abbrev pub fields_at : Endian → List ℕ → ℕ → List ℕ → List Field
fields_at order bytes place [] = []
fields_at order bytes place (w ∷ widths) =
    field w (number_at order bytes place w) ∷ fields_at order bytes (place + w) widths

-- the sum of widths
abbrev pub total : List ℕ → ℕ
total [] = 0
total (w ∷ widths) = w + total widths

-- the widths of fields
abbrev pub widths_of : List Field → List ℕ
widths_of [] = []
widths_of (f ∷ fields) = f.width ∷ widths_of fields

-- the values of fields
abbrev pub values_of : List Field → List ℕ
values_of [] = []
values_of (f ∷ fields) = f.value ∷ values_of fields

-- the low bits of the values: as many as fit the widths
abbrev pub lows_of : List Field → List ℕ
lows_of [] = []
lows_of (f ∷ fields) = f.value % 256 ^ f.width ∷ lows_of fields
