-- Note headers of the 32-bit and the 64-bit class (System V gABI, "Note Section"; its words are 4 bytes each, and 8
-- in the 64-bit form).
use Rattle.std.specs.Prelude.{[], ◌∷◌, slice_index, ℕ, List}
use Rattle.goblin_records.specs.Common.{Endian, field, Shape, shaped}
use Rattle.goblin_records.specs.declared.note.Nhdr32.{Nhdr32}
use Rattle.goblin_records.specs.declared.note.Nhdr64.{Nhdr64}

-- the fields of a note header in file order, each with its width in bytes
abbrev pub nhdr32 : Shape Nhdr32
nhdr32 = record {
  fields = λ h. field 4 h.n_namesz ∷ field 4 h.n_descsz ∷ field 4 h.n_type ∷ [];
  of_values = λ values. record {
    n_namesz = slice_index values 0;
    n_descsz = slice_index values 1;
    n_type = slice_index values 2;
  };
}

abbrev pub nhdr64 : Shape Nhdr64
nhdr64 = record {
  fields = λ h. field 8 h.n_namesz ∷ field 8 h.n_descsz ∷ field 8 h.n_type ∷ [];
  of_values = λ values. record {
    n_namesz = slice_index values 0;
    n_descsz = slice_index values 1;
    n_type = slice_index values 2;
  };
}

-- the size of a note header of the 32-bit class in bytes, and how it is read
abbrev pub nhdr32_size : ℕ
nhdr32_size = 12

abbrev pub nhdr32_of : Endian → List ℕ → Nhdr32
nhdr32_of order = (shaped nhdr32 order).read
