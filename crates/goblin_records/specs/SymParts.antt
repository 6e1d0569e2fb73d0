-- The parts of a symbol's `st_info` and `st_other`: binding, type and visibility (System V gABI, "Symbol Table").
use Rattle.std.specs.Prelude.{◌/◌, ◌%◌, ◌⊎◌, [], ◌∷◌, codes, ◌≡◌, ℕ, List}
use Rattle.goblin_records.specs.Common.{name_in}

-- the binding is the high four bits of `st_info`
abbrev pub bind_of : ℕ → ℕ
bind_of info = info / 16

-- the type is the low four bits of `st_info`
abbrev pub type_of : ℕ → ℕ
type_of info = info % 16

-- the visibility is the low three bits of `st_other`
abbrev pub visibility_of : ℕ → ℕ
visibility_of other = other % 8

-- a global symbol (1) of value 0
abbrev pub IsGlobalImport : ℕ → ℕ → Type 0
IsGlobalImport info value = (bind_of info ≡ 1) × (value ≡ 0)

-- a global (1) or weak (2) symbol of value 0
abbrev pub IsImport : ℕ → ℕ → Type 0
IsImport info value = ((bind_of info ≡ 1) ⊎ (bind_of info ≡ 2)) × (value ≡ 0)

-- the names of bindings
unfoldable pub bind_name : ℕ → List ℕ
bind_name bind =
    let names =
    (0, codes "LOCAL") ∷ (1, codes "GLOBAL") ∷ (2, codes "WEAK") ∷ (3, codes "NUM") ∷ (10, codes "GNU_UNIQUE") ∷ []
    in
    name_in names (codes "UNKNOWN_STB") bind

-- the names of types
unfoldable pub type_name : ℕ → List ℕ
type_name typ =
    let names =
    (0, codes "NOTYPE") ∷ (1, codes "OBJECT") ∷ (2, codes "FUNC") ∷ (3, codes "SECTION") ∷ (4, codes "FILE")
    ∷ (5, codes "COMMON") ∷ (6, codes "TLS") ∷ (7, codes "NUM") ∷ (10, codes "GNU_IFUNC") ∷ []
    in
    name_in names (codes "UNKNOWN_STT") typ

-- the names of visibilities
unfoldable pub visibility_name : ℕ → List ℕ
visibility_name visibility =
    let names =
    (0, codes "DEFAULT") ∷ (1, codes "INTERNAL") ∷ (2, codes "HIDDEN") ∷ (3, codes "PROTECTED")
    ∷ (4, codes "EXPORTED") ∷ (5, codes "SINGLETON") ∷ (6, codes "ELIMINATE") ∷ []
    in
    name_in names (codes "UNKNOWN_STV") visibility
