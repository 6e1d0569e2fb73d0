-- The names of section types and of their flags (System V gABI, "Section Header", sh_type and sh_flags, and the numbers
-- assigned later).
use Rattle.std.specs.Prelude.{ℕ, List, [], ◌∷◌, codes}
use Rattle.goblin_headers.specs.Common.{name_in}

-- each section type that has a name, and the name
abbrev pub section_names : List (ℕ × List ℕ)
section_names =
    (0, codes "SHT_NULL") ∷
    (1, codes "SHT_PROGBITS") ∷
    (2, codes "SHT_SYMTAB") ∷
    (3, codes "SHT_STRTAB") ∷
    (4, codes "SHT_RELA") ∷
    (5, codes "SHT_HASH") ∷
    (6, codes "SHT_DYNAMIC") ∷
    (7, codes "SHT_NOTE") ∷
    (8, codes "SHT_NOBITS") ∷
    (9, codes "SHT_REL") ∷
    (10, codes "SHT_SHLIB") ∷
    (11, codes "SHT_DYNSYM") ∷
    (14, codes "SHT_INIT_ARRAY") ∷
    (15, codes "SHT_FINI_ARRAY") ∷
    (16, codes "SHT_PREINIT_ARRAY") ∷
    (17, codes "SHT_GROUP") ∷
    (18, codes "SHT_SYMTAB_SHNDX") ∷
    (19, codes "SHT_NUM") ∷
    (0x60000000, codes "SHT_LOOS") ∷
    (0x6ffffff5, codes "SHT_GNU_ATTRIBUTES") ∷
    (0x6ffffff6, codes "SHT_GNU_HASH") ∷
    (0x6ffffff7, codes "SHT_GNU_LIBLIST") ∷
    (0x6ffffff8, codes "SHT_CHECKSUM") ∷
    (0x6ffffffa, codes "SHT_SUNW_MOVE") ∷
    (0x6ffffffb, codes "SHT_SUNW_COMDAT") ∷
    (0x6ffffffc, codes "SHT_SUNW_SYMINFO") ∷
    (0x6ffffffd, codes "SHT_GNU_VERDEF") ∷
    (0x6ffffffe, codes "SHT_GNU_VERNEED") ∷
    (0x6fffffff, codes "SHT_GNU_VERSYM") ∷
    (0x70000000, codes "SHT_LOPROC") ∷
    (0x70000001, codes "SHT_X86_64_UNWIND") ∷
    (0x7fffffff, codes "SHT_HIPROC") ∷
    (0x80000000, codes "SHT_LOUSER") ∷
    (0x8fffffff, codes "SHT_HIUSER") ∷
    []

-- the name of a section type
unfoldable pub section_name : ℕ → List ℕ
section_name = name_in section_names (codes "UNKNOWN_SHT")

-- each flag that has a name, and the name
abbrev pub section_flag_names : List (ℕ × List ℕ)
section_flag_names =
    (0x1, codes "SHF_WRITE") ∷
    (0x2, codes "SHF_ALLOC") ∷
    (0x4, codes "SHF_EXECINSTR") ∷
    (0x10, codes "SHF_MERGE") ∷
    (0x20, codes "SHF_STRINGS") ∷
    (0x40, codes "SHF_INFO_LINK") ∷
    (0x80, codes "SHF_LINK_ORDER") ∷
    (0x100, codes "SHF_OS_NONCONFORMING") ∷
    (0x200, codes "SHF_GROUP") ∷
    (0x400, codes "SHF_TLS") ∷
    (0x800, codes "SHF_COMPRESSED") ∷
    (0x40000000, codes "SHF_ORDERED") ∷
    []

-- the name of a flag
unfoldable pub section_flag_name : ℕ → List ℕ
section_flag_name = name_in section_flag_names (codes "SHF_UNKNOWN")
