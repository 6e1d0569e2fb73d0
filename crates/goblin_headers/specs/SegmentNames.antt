-- The names of segment types (System V gABI, "Program Header", p_type, and the numbers assigned later).
use Rattle.std.specs.Prelude.{ℕ, List, [], ◌∷◌, codes}
use Rattle.goblin_headers.specs.Common.{name_in}

-- each segment type that has a name, and the name
abbrev pub segment_names : List (ℕ × List ℕ)
segment_names =
    (0, codes "PT_NULL") ∷
    (1, codes "PT_LOAD") ∷
    (2, codes "PT_DYNAMIC") ∷
    (3, codes "PT_INTERP") ∷
    (4, codes "PT_NOTE") ∷
    (5, codes "PT_SHLIB") ∷
    (6, codes "PT_PHDR") ∷
    (7, codes "PT_TLS") ∷
    (8, codes "PT_NUM") ∷
    (0x60000000, codes "PT_LOOS") ∷
    (0x6474e550, codes "PT_GNU_EH_FRAME") ∷
    (0x6474e553, codes "PT_GNU_PROPERTY") ∷
    (0x6474e551, codes "PT_GNU_STACK") ∷
    (0x6474e552, codes "PT_GNU_RELRO") ∷
    (0x6ffffffa, codes "PT_SUNWBSS") ∷
    (0x6ffffffb, codes "PT_SUNWSTACK") ∷
    (0x6fffffff, codes "PT_HIOS") ∷
    (0x70000000, codes "PT_LOPROC") ∷
    (0x70000001, codes "PT_ARM_EXIDX") ∷
    (0x7fffffff, codes "PT_HIPROC") ∷
    []

-- the name of a segment type
unfoldable pub segment_name : ℕ → List ℕ
segment_name = name_in segment_names (codes "UNKNOWN_PT")
