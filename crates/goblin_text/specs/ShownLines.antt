-- The lines of the shown text.
use Rattle.std.specs.Prelude.{ℕ, ◌==◌, ◌||◌, nat_lt, Bool, if◌then◌else◌, List, slice_index, codes, decimal, map, ℤ}
use Rattle.std.specs.Prelude.{Option, None, Some}
use Rattle.goblin_text.specs.Common.{Header, SectionHeader, Reloc, Sym, ◌&◌, hexadecimal}
use Rattle.std.specs.Fmt.{signed_decimal}
use Rattle.goblin.specs.Machines.{machine_name}
use Rattle.goblin.specs.HeaderNames.{class_name, file_type_name}
use Rattle.goblin.specs.SectionNames.{section_name}
use Rattle.goblin.specs.SymParts.{bind_of, type_of, visibility_of, bind_name, type_name, visibility_name}
pub use Rattle.goblin_base.specs.Lines.{newline}

-- a control character of ASCII
abbrev pub is_control : ℕ → Bool
is_control byte = nat_lt byte 32 || (byte == 127)

-- a byte of a name as it prints: a control character is a question mark
abbrev pub printable : ℕ → ℕ
printable byte = if is_control byte then 63 else byte

-- a name as it prints
abbrev pub printed : List ℕ → List ℕ
printed name = map printable name

-- the word for the byte order that a data byte names
abbrev pub order_word : ℕ → List ℕ
order_word byte = if byte == 1 then codes "little" else codes "big"

-- the line of a header
abbrev pub header_line : Header → List ℕ
header_line h =
    codes "header " & class_name (slice_index h.e_ident 4) & codes " " & order_word
    (slice_index h.e_ident 5) & codes " "
    & file_type_name h.e_type & codes " " & machine_name h.e_machine & codes " entry 0x" & hexadecimal h.e_entry
    & codes " phnum " & decimal h.e_phnum & codes " shnum " & decimal h.e_shnum & newline

-- a line that ends with a name
abbrev pub named_line : (head name : List ℕ) → List ℕ
named_line head name = head & printed name & newline

-- the line of the section with a number, up to its name
unfoldable pub section_head : ℕ → SectionHeader → List ℕ
section_head number s =
    codes "section " & decimal number & codes " " & section_name s.sh_type & codes " offset 0x" & hexadecimal
    s.sh_offset
    & codes " size " & decimal s.sh_size & codes " name="

-- the line of the section with a number and a name
abbrev pub section_line : ℕ → SectionHeader → List ℕ → List ℕ
section_line number s name = named_line (section_head number s) name

-- the line of the symbol with a number, of the section with a number, up to its name
unfoldable pub symbol_head : ℕ → ℕ → Sym → List ℕ
symbol_head section number s =
    codes "symbol " & decimal section & codes " " & decimal number & codes " " & type_name
    (type_of s.st_info) & codes " "
    & bind_name (bind_of s.st_info) & codes " " & visibility_name (visibility_of s.st_other) & codes " value 0x"
    & hexadecimal s.st_value & codes " size " & decimal s.st_size & codes " name="

-- the line of the symbol with a number and a name, of the section with a number
abbrev pub symbol_line : ℕ → ℕ → Sym → List ℕ → List ℕ
symbol_line section number s name = named_line (symbol_head section number s) name

-- an addend in decimal, or a dash for none
abbrev pub addend_text : Option ℤ → List ℕ
addend_text None = codes "-"
addend_text (Some addend) = signed_decimal addend

-- the line of the relocation with a number, of the section with a number
abbrev pub reloc_line : ℕ → ℕ → Reloc → List ℕ
reloc_line section number r =
    codes "reloc " & decimal section & codes " " & decimal number & codes " offset 0x" & hexadecimal r.r_offset
    & codes " sym " & decimal r.r_sym & codes " type " & decimal r.r_type & codes " addend " & addend_text r.r_addend &
    newline
