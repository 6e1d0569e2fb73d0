-- The numbers of the constants of headers, in the order in which the laws list their names (System V gABI, "ELF
-- Header", "Program Header" and "Section Header", and the numbers assigned later).
use Rattle.std.specs.Prelude.{ℕ, List, [], ◌∷◌}

-- file types, and the ends of their ranges
abbrev pub file_type_numbers : List ℕ
file_type_numbers = 0 ∷ 1 ∷ 2 ∷ 3 ∷ 4 ∷ 5 ∷ 0xfe00 ∷ 0xfeff ∷ 0xff00 ∷ 0xffff ∷ []

-- the machines without a name
abbrev pub unnamed_machine_numbers : List ℕ
unnamed_machine_numbers = 0 ∷ 205 ∷ 248 ∷ 252 ∷ []

-- the sizes of the magic number and of the identification in bytes
abbrev pub ident_size_numbers : List ℕ
ident_size_numbers = 4 ∷ 16 ∷ []

-- the offsets in the identification: of class, data byte, version, OS/ABI and ABI version
abbrev pub ident_place_numbers : List ℕ
ident_place_numbers = 4 ∷ 5 ∷ 6 ∷ 7 ∷ 8 ∷ []

-- class bytes
abbrev pub class_numbers : List ℕ
class_numbers = 0 ∷ 1 ∷ 2 ∷ 3 ∷ []

-- data bytes
abbrev pub data_numbers : List ℕ
data_numbers = 0 ∷ 1 ∷ 2 ∷ []

-- systems
abbrev pub system_numbers : List ℕ
system_numbers = 0 ∷ 0 ∷ 1 ∷ 2 ∷ 3 ∷ 3 ∷ 6 ∷ 7 ∷ 8 ∷ 9 ∷ 10 ∷ 11 ∷ 12 ∷ 64 ∷ 97 ∷ 255 ∷ []

-- segment types, the ends of their ranges, and those of GNU, Sun and ARM
abbrev pub segment_type_numbers : List ℕ
segment_type_numbers =
    0 ∷ 1 ∷ 2 ∷ 3 ∷ 4 ∷ 5 ∷ 6 ∷ 7 ∷ 8 ∷ 0x60000000 ∷ 0x6fffffff ∷ 0x70000000 ∷ 0x7fffffff ∷ 0x6474e550 ∷ 0x6474e551
    ∷ 0x6474e552 ∷ 0x6474e553 ∷ 0x6ffffffa ∷ 0x6ffffffa ∷ 0x6ffffffb ∷ 0x6fffffff ∷ 0x70000001 ∷ []

-- flags of segments
abbrev pub segment_flag_numbers : List ℕ
segment_flag_numbers = 1 ∷ 2 ∷ 4 ∷ 0x0ff00000 ∷ 0xf0000000 ∷ []

-- special section indices
abbrev pub section_index_numbers : List ℕ
section_index_numbers =
    0 ∷ 0xff00 ∷ 0xff00 ∷ 0xff00 ∷ 0xff01 ∷ 0xff1f ∷ 0xff20 ∷ 0xff3f ∷ 0xfff1 ∷ 0xfff2 ∷ 0xffff ∷ 0xffff ∷ []

-- section types, the ends of their ranges, and those of GNU, Sun and x86-64
abbrev pub section_type_numbers : List ℕ
section_type_numbers =
    0 ∷ 1 ∷ 2 ∷ 3 ∷ 4 ∷ 5 ∷ 6 ∷ 7 ∷ 8 ∷ 9 ∷ 10 ∷ 11 ∷ 14 ∷ 15 ∷ 16 ∷ 17 ∷ 18 ∷ 19 ∷ 0x60000000 ∷ 0x6fffffff ∷ 0x70000000
    ∷ 0x7fffffff ∷ 0x80000000 ∷ 0x8fffffff ∷ 0x6ffffff5 ∷ 0x6ffffff6 ∷ 0x6ffffff7 ∷ 0x6ffffff8 ∷ 0x6ffffffd ∷ 0x6ffffffe
    ∷ 0x6fffffff ∷ 0x6ffffffa ∷ 0x6ffffffa ∷ 0x6ffffffb ∷ 0x6ffffffc ∷ 0x6fffffff ∷ 0x70000001 ∷ []

-- flags of sections
abbrev pub section_flag_numbers : List ℕ
section_flag_numbers =
    0x1 ∷ 0x2 ∷ 0x4 ∷ 0x10 ∷ 0x20 ∷ 0x40 ∷ 0x80 ∷ 0x100 ∷ 0x200 ∷ 0x400 ∷ 0x800 ∷ 0x40000000 ∷ 0x0ff00000 ∷ 0xf0000000
    ∷ 0x80000000 ∷ []
