-- The names of classes and file types (System V gABI, "ELF Identification" and "ELF Header", e_type).
use Rattle.std.specs.Prelude.{ℕ, List, [], ◌∷◌, codes}
use Rattle.goblin_headers.specs.Common.{name_in}

-- each class byte that has a name, and the name
abbrev pub class_names : List (ℕ × List ℕ)
class_names = (0, codes "NONE") ∷ (1, codes "ELF32") ∷ (2, codes "ELF64") ∷ []

-- the name of a class byte
unfoldable pub class_name : ℕ → List ℕ
class_name = name_in class_names (codes "UNKNOWN_CLASS")

-- each file type that has a name, and the name
abbrev pub file_type_names : List (ℕ × List ℕ)
file_type_names =
    (0, codes "NONE") ∷ (1, codes "REL") ∷ (2, codes "EXEC") ∷ (3, codes "DYN") ∷ (4, codes "CORE") ∷ (5, codes "NUM")
    ∷ []

-- the name of a file type
unfoldable pub file_type_name : ℕ → List ℕ
file_type_name = name_in file_type_names (codes "UNKNOWN_ET")
