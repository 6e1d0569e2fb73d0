-- The parts of an `r_info`: the symbol and the type (System V gABI, "Relocation", ELF32_R_SYM and its like), and how
-- little-endian MIPS64 files store them.
use Rattle.std.specs.Prelude.{◌+◌, ◌/◌, ◌%◌, ◌≡◌, ◌<◌, ◌*◌, ◌^◌, ℕ}
use Rattle.goblin_records.specs.Common.{Container, number, spelled, Little, Big}
use Rattle.goblin_base.specs.declared.container.Endian.TheVariants as order

-- how many symbols an `r_info` of a class can name
abbrev pub symbols : Container → ℕ
symbols Little = 2 ^ 24
symbols Big = 2 ^ 32

-- how many types it can name
abbrev pub types : Container → ℕ
types Little = 2 ^ 8
types Big = 2 ^ 32

-- the symbol that an `r_info` names: the bits above its type
abbrev pub symbol_in : Container → ℕ → ℕ
symbol_in class info = info / types class

-- the type that an `r_info` names: its low bits
abbrev pub type_in : Container → ℕ → ℕ
type_in class info = info % types class

-- the `r_info` of the low bits of a symbol and of a type, as many as a class holds
abbrev pub info_of : Container → ℕ → ℕ → ℕ
info_of class symbol typ = (symbol % symbols class) * types class + typ % types class

-- an `r_info` of a class is the one of its symbol and its type
abbrev pub JoinsItsParts : Container → Type 0
JoinsItsParts class =
    (info : ℕ) → info < symbols class * types class → info_of class (symbol_in class info) (type_in class info) ≡ info

-- the big-endian number of the four bytes of a little-endian one
abbrev pub reversed : ℕ → ℕ
reversed word = number order.Big (spelled order.Little 4 word)

-- the symbol and the type that the high and the low word of an `r_info` store in a little-endian MIPS64 file: the low
-- word is the symbol, and the high word is the type with its bytes reversed
abbrev pub mips64el_pair : ℕ × ℕ → ℕ × ℕ
mips64el_pair read = (read.1, reversed read.0)

-- the words that store a symbol and a type there
abbrev pub mips64el_pair_inverse : ℕ × ℕ → ℕ × ℕ
mips64el_pair_inverse meant = (reversed meant.1, meant.0)

-- the high and the low word of a number
abbrev pub words_of : ℕ → ℕ × ℕ
words_of info = (info / 2 ^ 32, info % 2 ^ 32)

-- the number of a high and a low word
abbrev pub from_words : ℕ × ℕ → ℕ
from_words words = words.0 * 2 ^ 32 + words.1

-- the standard `r_info` of one that was read from a little-endian MIPS64 file
abbrev pub mips64el_info : ℕ → ℕ
mips64el_info info = from_words (mips64el_pair (words_of info))

-- the `r_info` that stores a standard one there
abbrev pub mips64el_info_inverse : ℕ → ℕ
mips64el_info_inverse info = from_words (mips64el_pair_inverse (words_of info))

-- the two undo each other
abbrev pub Mips64elInverse : Type 0
Mips64elInverse =
    (info : ℕ) → info < 2 ^ 64
    → (mips64el_info_inverse (mips64el_info info) ≡ info) × (mips64el_info (mips64el_info_inverse info) ≡ info)

-- different ones have different standard ones
abbrev pub Mips64elOneToOne : Type 0
Mips64elOneToOne =
    (one other : ℕ) → one < 2 ^ 64 → other < 2 ^ 64 → mips64el_info one ≡ mips64el_info other → one ≡ other

-- four times gives back the first
abbrev pub Mips64elFourTimes : Type 0
Mips64elFourTimes =
    (info : ℕ) → info < 2 ^ 64 → mips64el_info (mips64el_info (mips64el_info (mips64el_info info))) ≡ info
