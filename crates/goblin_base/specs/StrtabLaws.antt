-- Laws of string tables. They speak of the definitions only.
use Rattle.std.specs.Prelude.{◌≡◌, ◌↔◌, ℕ, ◌+◌, ◌-◌, ◌^◌, ◌<◌, ◌≤◌, ◌==◌, ◌&&◌, Bool, true, false, List, [], ◌∷◌, ◌++◌}
use Rattle.std.specs.Prelude.{map, length, take, drop, nat_le, nat_lt, slice_index, if◌then◌else◌, IsTrue, IsOk, Some}
use Rattle.std.specs.Prelude.{Ok, Err, unwrap_or}
use Rattle.std.specs.Bool.{Decides}
use Rattle.goblin_base.specs.Common.{join_with_byte, result_ok, IsUtf8, is_utf8, ParseMode, Strict, Permissive}
use Rattle.goblin_base.specs.Entries.{text_of}
use Rattle.goblin_base.specs.Pieces.{piece, entries, entries_by_place}
use Rattle.goblin_base.specs.Search.{digits}
use Rattle.goblin_base.specs.Strtab.{StringTable, walked, range_in, strtab_of, plain, look_up, has_name, strings_of}
use Rattle.goblin_base.specs.Wanted.{is_piece, starts_piece}
use Rattle.goblin_base.specs.declared.error.Fault.TheVariants.{StrtabOffset, StrtabRange}

-- the test passes exactly if the bytes are well-formed UTF-8: the joined shortest spellings of scalar values
abbrev pub TextIsUtf8 : Type 0
TextIsUtf8 = (bytes : List ℕ) → IsTrue (is_utf8 bytes) ↔ IsUtf8 bytes

-- the entries of the walk are those of the closed form
abbrev pub ClosedForm : Type 0
ClosedForm = (bytes : List ℕ) (delim : ℕ) → entries bytes delim ≡ entries_by_place bytes delim

-- the bytes end with the delimiter
abbrev pub ends_in : ℕ → List ℕ → Bool
ends_in delim bytes = nat_lt 0 (length bytes) && (slice_index bytes (length bytes - 1) == delim)

-- strings with the delimiter between each two, and one more at the end if the bytes end with it
abbrev pub joined : List ℕ → ℕ → List (List ℕ) → List ℕ
joined bytes delim strings = join_with_byte delim strings ++ (if ends_in delim bytes then delim ∷ [] else [])

-- the strings of a strict walk, joined, are the bytes
abbrev pub JoinsAgain : Type 0
JoinsAgain = (bytes : List ℕ) (delim : ℕ) (es : List (ℕ × List ℕ))
    → walked Strict bytes delim ≡ Ok es → joined bytes delim (map text_of es) ≡ bytes

-- permissive mode never fails
abbrev pub PermissiveAccepts : Type 0
PermissiveAccepts = (file : List ℕ) (offset size delim : ℕ) → IsOk (strtab_of Permissive file offset size delim)

-- if strict mode accepts a range, permissive mode makes the same table
abbrev pub StrictIsPermissive : Type 0
StrictIsPermissive = (file : List ℕ) (offset size delim : ℕ) (table : StringTable)
    → strtab_of Strict file offset size delim ≡ Ok table → strtab_of Permissive file offset size delim ≡ Ok table

-- in a parsed table the look-up has each text that the plain reading has
abbrev pub LookUpHasPlain : Type 0
LookUpHasPlain = (table : StringTable) (offset : ℕ) (text : List ℕ)
    → table.is_parsed ≡ true → offset < length table.bytes
    → plain table.bytes table.delim offset ≡ Ok text → look_up table offset ≡ Some text

-- in a table that was parsed in strict mode the look-up is the plain reading
abbrev pub StrictLookUpIsPlain : Type 0
StrictLookUpIsPlain = (file : List ℕ) (offset size delim : ℕ) (table : StringTable) (o : ℕ)
    → strtab_of Strict file offset size delim ≡ Ok table → o < length table.bytes
    → look_up table o ≡ result_ok (plain table.bytes table.delim o)

-- a table depends only on the length of the file and on the bytes of the range
abbrev pub DependsOnRange : Type 0
DependsOnRange = (mode : ParseMode) (a b : List ℕ) (offset size delim : ℕ)
    → length a ≡ length b → take size (drop offset a) ≡ take size (drop offset b)
    → strtab_of mode a offset size delim ≡ strtab_of mode b offset size delim

-- a range that is UTF-8 is accepted in either mode, if the delimiter is ASCII: no walk is needed to know it
abbrev pub TextIsTaken : Type 0
TextIsTaken = (mode : ParseMode) (file : List ℕ) (offset size delim : ℕ) (range : List ℕ)
    → delim < 128 → range_in mode file offset size ≡ Ok range → IsUtf8 range
    → strtab_of mode file offset size delim ≡ Ok (record { bytes = range; delim = delim; is_parsed = true })

-- in a parsed table the text at an offset, or the empty one if there is none, is that of the plain reading, even if the
-- bytes aren't UTF-8
abbrev pub NamesArePlain : Type 0
NamesArePlain = (table : StringTable) (offset : ℕ) → table.is_parsed ≡ true → offset < length table.bytes
    → unwrap_or (look_up table offset) [] ≡ unwrap_or (result_ok (plain table.bytes table.delim offset)) []

-- a number has at most n binary digits exactly if it is below 2 ^ n
abbrev pub DigitsCount : Type 0
DigitsCount = (k n : ℕ) → (digits k ≤ n) ↔ (k < 2 ^ n)

-- the strings of a table that wasn't parsed, joined by its delimiter, are its bytes
abbrev pub StringsJoin : Type 0
StringsJoin = (table : StringTable) (strings : List (List ℕ))
    → table.is_parsed ≡ false → strings_of table ≡ Ok strings → joined table.bytes table.delim strings ≡ table.bytes

-- a name is at an offset exactly if the plain reading there is the name
abbrev pub NamesAreRead : Type 0
NamesAreRead = (bytes : List ℕ) (delim o : ℕ) (name : List ℕ)
    → Decides (has_name bytes delim o name) ((o < length bytes) × (plain bytes delim o ≡ Ok name))

-- the piece at an offset is a text exactly if their bytes are the same
abbrev pub PiecesAreCompared : Type 0
PiecesAreCompared = (bytes : List ℕ) (delim o : ℕ) (text : List ℕ)
    → Decides (is_piece bytes delim o text) ((o < length bytes) × (piece bytes delim o ≡ text))

-- and begins with a text exactly if its first bytes are the text's
abbrev pub PiecesBegin : Type 0
PiecesBegin = (bytes : List ℕ) (delim o : ℕ) (text : List ℕ)
    → Decides (starts_piece bytes delim o text)
    ((o < length bytes) × (take (length text) (piece bytes delim o) ≡ text))

-- which ranges are refused in strict mode, in plain numbers, and as what
pub record RangesRefused (file : List ℕ) (offset size : ℕ) : Type 0 where
  pub past : length file < offset → range_in Strict file offset size ≡ Err (StrtabOffset offset (length file))
  pub long : offset ≤ length file → length file < offset + size
      → range_in Strict file offset size ≡ Err (StrtabRange size offset (length file) (nat_le (2 ^ 64) (offset + size)))
