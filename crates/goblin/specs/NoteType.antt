-- The names of note types.
use Rattle.std.specs.Prelude.{ℕ, if◌then◌else◌, List, [], ◌∷◌, codes}
use Rattle.std.specs.Str.{bytes_eq}
use Rattle.goblin_base.specs.Texts.{name_in}

-- the name of the type of a note with this name: notes of core files have types of their own
unfoldable pub note_type_name : List ℕ → ℕ → List ℕ
note_type_name name typ =
    let in_core =
    (1, codes "NT_PRSTATUS") ∷ (3, codes "NT_PRPSINFO") ∷ (0x53494749, codes "NT_SIGINFO") ∷ []
    in
    let elsewhere =
    (1, codes "NT_GNU_ABI_TAG") ∷ (2, codes "NT_GNU_HWCAP") ∷ (3, codes "NT_GNU_BUILD_ID")
    ∷ (4, codes "NT_GNU_GOLD_VERSION") ∷ (5, codes "NT_GNU_PROPERTY_0") ∷ []
    in
    name_in (if bytes_eq name (codes "CORE") then in_core else elsewhere) (codes "NT_UNKNOWN") typ
