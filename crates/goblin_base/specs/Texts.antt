-- Texts: of numbers and truth values, of a table of names, and of the errors.
use Rattle.std.specs.Prelude.{◌≡◌, ℕ, Bool, true, false, ◌&&◌, ◌==◌, nat_le, nat_lt, if◌then◌else◌, List, [], ◌∷◌, ◌++◌}
use Rattle.std.specs.Prelude.{codes, drop, length, Option, Some}
use Rattle.std.specs.Fmt.{decimal, digits}
use Rattle.std.specs.List.{find}
use Rattle.goblin_base.specs.declared.digits.Digits.{Digits}
use Rattle.goblin_base.specs.declared.error.Fault.{Fault}
use Rattle.goblin_base.specs.declared.error.Fault.TheVariants as fault
use Rattle.goblin_base.specs.declared.texts.Kind.{Kind}
use Rattle.goblin_base.specs.declared.texts.Kind.TheVariants.{BadMagic, TooBig, BadOffset, BadInput, BufferTooShort}
use Rattle.goblin_base.specs.declared.texts.Kind.TheVariants.{OutOfMemory, InvalidClass, InvalidEndianness, TooSmall}
use Rattle.goblin_base.specs.declared.texts.Kind.TheVariants.{ElfClass, DataType, Data, NoteAlign, SymtabOffset}
use Rattle.goblin_base.specs.declared.texts.Kind.TheVariants.{TooManySymbols, SymtabPast, StrtabOffset, StrtabRange}
use Rattle.goblin_base.specs.declared.texts.Kind.TheVariants.{SectionOffset, SectionAddr, IntegerFit}
use Rattle.goblin_base.specs.declared.texts.Part.{Part}
use Rattle.goblin_base.specs.declared.texts.Part.TheVariants as part
use Rattle.goblin_base.specs.declared.texts.Report.{Report}
use Rattle.goblin_base.specs.declared.texts.TheConstants.{KINDS}
use Rattle.goblin_base.specs.Refusal.{Refusal, malformed, bad_magic, too_big, bad_offset, bad_input, buffer_too_short}
use Rattle.goblin_base.specs.Refusal.{out_of_memory}

-- one text after another
infixr 6 ◌&◌
abbrev pub ◌&◌ : List ℕ → List ℕ → List ℕ
a & b = a ++ b

-- a number in lower-case hexadecimal, without leading zeros
abbrev pub hexadecimal : ℕ → List ℕ
hexadecimal n = digits 16 false n

-- the digits of a number that was written: the last bytes
abbrev pub digits_text : Digits → List ℕ
digits_text d = drop d.start d.bytes

-- the name in the first row with a number, or `other` if no row has it
abbrev pub name_in : List (ℕ × List ℕ) → List ℕ → ℕ → List ℕ
name_in [] other number = other
name_in (row ∷ rows) other number = if number == row.0 then row.1 else name_in rows other number

-- a truth value as a word
abbrev pub word_of : Bool → List ℕ
word_of b = if b then codes "true" else codes "false"

-- an error as its kind, its numbers and its item, without where the item lies in memory
pub record Facts : Type 0 where
  pub kind : Kind
  pub item : List ℕ
  pub first : ℕ
  pub second : ℕ
  pub third : ℕ
  pub overflow : Bool

-- those of a report
abbrev pub facts_of : Report → Facts
facts_of report = record {
  kind = report.kind;
  item = report.item.now;
  first = report.first;
  second = report.second;
  third = report.third;
  overflow = report.overflow;
}

-- those of a kind with numbers, and with an item
abbrev pub numbers : Kind → ℕ → ℕ → ℕ → Bool → Facts
numbers kind first second third overflow =
    record { kind = kind; item = []; first = first; second = second; third = third; overflow = overflow }

abbrev pub with_item : Kind → ℕ → List ℕ → Facts
with_item kind first item = record { kind = kind; item = item; first = first; second = 0; third = 0; overflow = false }

-- those of a fault
abbrev pub fault_facts : Fault → Facts
fault_facts (fault.InvalidClass class) = numbers InvalidClass class 0 0 false
fault_facts (fault.InvalidEndianness order) = numbers InvalidEndianness order 0 0 false
fault_facts fault.TooSmall = numbers TooSmall 0 0 0 false
fault_facts (fault.ElfClass class) = numbers ElfClass class 0 0 false
fault_facts (fault.DataType order) = numbers DataType order 0 0 false
fault_facts (fault.Data order) = numbers Data order 0 0 false
fault_facts (fault.NoteAlign align) = numbers NoteAlign align 0 0 false
fault_facts (fault.SymtabOffset offset len) = numbers SymtabOffset offset len 0 false
fault_facts (fault.TooManySymbols offset count) = numbers TooManySymbols offset count 0 false
fault_facts (fault.SymtabPast requested available) = numbers SymtabPast requested available 0 false
fault_facts (fault.StrtabOffset offset len) = numbers StrtabOffset offset len 0 false
fault_facts (fault.StrtabRange size offset len overflow) = numbers StrtabRange size offset len overflow
fault_facts (fault.SectionOffset name size offset overflow) = numbers SectionOffset name size offset overflow
fault_facts (fault.SectionAddr name size addr overflow) = numbers SectionAddr name size addr overflow
fault_facts (fault.IntegerFit e) = numbers IntegerFit 0 0 0 false

-- those of a refusal
abbrev pub refusal_facts : Refusal → Facts
refusal_facts (malformed f) = fault_facts f
refusal_facts (bad_magic magic) = numbers BadMagic magic 0 0 false
refusal_facts (too_big size len) = numbers TooBig size len 0 false
refusal_facts (bad_offset offset) = numbers BadOffset offset 0 0 false
refusal_facts (bad_input size msg) = with_item BadInput size msg
refusal_facts (buffer_too_short count item) = with_item BufferTooShort count item
refusal_facts out_of_memory = numbers OutOfMemory 0 0 0 false

-- the number of a kind
abbrev pub kind_number : Kind → ℕ
kind_number BadMagic = 2
kind_number TooBig = 3
kind_number BadOffset = 4
kind_number BadInput = 5
kind_number BufferTooShort = 6
kind_number OutOfMemory = 7
kind_number InvalidClass = 10
kind_number InvalidEndianness = 11
kind_number TooSmall = 12
kind_number ElfClass = 13
kind_number DataType = 14
kind_number Data = 15
kind_number NoteAlign = 16
kind_number SymtabOffset = 17
kind_number TooManySymbols = 18
kind_number SymtabPast = 19
kind_number StrtabOffset = 20
kind_number StrtabRange = 21
kind_number SectionOffset = 22
kind_number SectionAddr = 23
kind_number IntegerFit = 24

-- a kind has this number
abbrev pub is_kind : ℕ → Kind → Bool
is_kind number kind = kind_number kind == number

-- the kind with a number, if there is one
abbrev pub kind_with : ℕ → Option Kind
kind_with number = find (is_kind number) KINDS.now

-- each kind is found by its number
abbrev pub KindsAreFound : Type 0
KindsAreFound = (kind : Kind) → kind_with (kind_number kind) ≡ Some kind

-- what stands before the text of a fault, which is of a kind from 10 on, and before others
abbrev pub prefix : Kind → List ℕ
prefix kind = if nat_lt (kind_number kind) 10 then [] else codes "Malformed entity: "

-- the text of an error of a kind, without its prefix
abbrev pub kind_text : Kind → Facts → List ℕ
kind_text BadMagic e = codes "Invalid magic number: 0x" & hexadecimal e.first
kind_text TooBig e = codes "type is too big (" & decimal e.first & codes ") for " & decimal e.second
kind_text BadOffset e = codes "bad offset " & decimal e.first
kind_text BadInput e = codes "bad input " & e.item & codes " (" & decimal e.first & codes ")"
kind_text BufferTooShort e = codes "Buffer is too short for " & decimal e.first & codes " " & e.item
kind_text OutOfMemory e = codes "Out of memory"
kind_text InvalidClass e = codes "Invalid class in Header: " & decimal e.first
kind_text InvalidEndianness e = codes "Invalid endianness in Header: " & decimal e.first
kind_text TooSmall e = codes "Too small"
kind_text ElfClass e = codes "invalid ELF class " & hexadecimal e.first
kind_text DataType e = codes "invalid ELF endianness DATA type " & hexadecimal e.first
kind_text Data e = codes "invalid ELF DATA type " & hexadecimal e.first
kind_text NoteAlign e = codes "Notes has unimplemented alignment requirement: 0x" & hexadecimal e.first
kind_text SymtabOffset e =
    codes "Symbol table offset (" & decimal e.first & codes ") is beyond file boundary (" & decimal e.second & codes ")"
kind_text TooManySymbols e =
    codes "Too many ELF symbols (offset 0x" & hexadecimal e.first & codes ", count " & decimal e.second & codes ")"
kind_text SymtabPast e =
    codes "Symbol table extends beyond file boundary (requested: " & decimal e.first & codes ", available: "
    & decimal e.second & codes ")"
kind_text StrtabOffset e =
    codes "String table offset (" & decimal e.first & codes ") is beyond file boundary (" & decimal e.second & codes ")"
kind_text StrtabRange e =
    codes "Strtable size (" & decimal e.first & codes ") + offset (" & decimal e.second & codes
    ") is out of bounds for "
    & decimal e.third & codes " #bytes. Overflowed: " & word_of e.overflow
kind_text SectionOffset e =
    codes "Section " & decimal e.first & codes " size (" & decimal e.second & codes ") + offset (" & decimal e.third
    & codes ") is out of bounds. Overflowed: " & word_of e.overflow
kind_text SectionAddr e =
    codes "Section " & decimal e.first & codes " size (" & decimal e.second & codes ") + addr (" & decimal e.third
    & codes ") is out of bounds. Overflowed: " & word_of e.overflow
kind_text IntegerFit e = codes "Integer do not fit: out of range integral type conversion attempted"

-- the text of a fault
abbrev pub fault_text : Fault → List ℕ
fault_text f = let e = fault_facts f in kind_text e.kind e

-- the text of an error, and of a refusal
abbrev pub facts_text : Facts → List ℕ
facts_text e = prefix e.kind & kind_text e.kind e

abbrev pub refusal_text : Refusal → List ℕ
refusal_text refusal = facts_text (refusal_facts refusal)

-- what a part is in the text of an error
abbrev pub part_text : Facts → Part → List ℕ
part_text e (part.Text text) = text.now
part_text e part.First = decimal e.first
part_text e part.Second = decimal e.second
part_text e part.Third = decimal e.third
part_text e part.Hexadecimal = hexadecimal e.first
part_text e part.Item = e.item
part_text e part.Overflow = word_of e.overflow

-- parts, one after another
abbrev pub parts_text : Facts → List Part → List ℕ
parts_text e [] = []
parts_text e (p ∷ []) = part_text e p
parts_text e (p ∷ q ∷ rest) = part_text e p & parts_text e (q ∷ rest)

-- a part isn't a text of more than 100 bytes
abbrev pub is_short : Part → Bool
is_short (part.Text text) = nat_le (length text.now) 100
is_short _ = true

-- there are at most 16 parts, and none is such a text
abbrev pub each_short : List Part → Bool
each_short [] = true
each_short (p ∷ rest) = is_short p && each_short rest

abbrev pub are_short : List Part → Bool
are_short parts = nat_le (length parts) 16 && each_short parts
