-- A string table, and what its calls return (System V gABI, "String Table").
use Rattle.std.specs.Prelude.{◌≡◌, ℕ, ◌+◌, ◌-◌, ◌^◌, ◌≤◌, ◌&&◌, Bool, true, false, List, [], map, length, slice_range}
use Rattle.std.specs.Prelude.{take, drop, min, nat_lt, nat_le, if◌then◌else◌, Option, None, Result, Ok, Err}
use Rattle.goblin_base.specs.Common.{bytes_eq, Error, ParseMode, Strict, Permissive}
use Rattle.goblin_base.specs.declared.error.Fault.{Fault}
use Rattle.goblin_base.specs.declared.error.Fault.TheVariants.{StrtabOffset, StrtabRange}
use Rattle.goblin_base.specs.Entries.{text_of}
use Rattle.goblin_base.specs.Pieces.{piece, entries, first_bad, is_readable, text_at}
use Rattle.goblin_base.specs.Refusal.{Refusal, Refuses, malformed}
use Rattle.goblin_base.specs.Steps.{◌>>=◌, refuse_as}
use Rattle.goblin_base.specs.Utf8.{invalid_utf8, text_or_fault}

-- the bytes, the delimiter that cuts them into strings, and whether the table was parsed and so has entries
pub record StringTable : Type 0 where
  pub bytes : List ℕ
  pub delim : ℕ
  pub is_parsed : Bool

-- an error of the range: strict mode fails with it, permissive mode goes on with these bytes
abbrev pub or_cut : ParseMode → Fault → List ℕ → Result (List ℕ) Fault
or_cut Strict fault bytes = Err fault
or_cut Permissive fault bytes = Ok bytes

-- the `size` bytes at an offset of the file; permissive mode cuts them at the end of the file
unfoldable pub range_in : ParseMode → List ℕ → ℕ → ℕ → Result (List ℕ) Fault
range_in mode file offset size =
    if nat_lt (length file) offset then or_cut mode (StrtabOffset offset (length file)) []
    else if nat_lt (length file) (offset + size)
    then or_cut mode (StrtabRange size offset (length file) (nat_le (2 ^ 64) (offset + size))) (drop offset file)
    else Ok (take size (drop offset file))

-- the bytes of a range start and end at these offsets: a range past the end of the file lies at its end; in strict mode
-- they are exactly those that were asked for
pub record IsRange (mode : ParseMode) (bytes : List ℕ) (offset len start end : ℕ) : Type 0 where
  pub from : start ≡ min offset (length bytes)
  pub order : start ≤ end
  pub within : end ≤ length bytes
  pub is : range_in mode bytes offset len ≡ Ok (slice_range bytes start end)
  pub strict : mode ≡ Strict → (start ≡ offset) × (end ≡ offset + len)

-- the walk: the entries, or in strict mode the error of the first whole piece that isn't UTF-8
unfoldable pub walked : ParseMode → List ℕ → ℕ → Result (List (ℕ × List ℕ)) Refusal
walked Permissive bytes delim = Ok (entries bytes delim)
walked Strict bytes delim =
    if nat_lt (first_bad bytes delim) (length bytes) then Err (invalid_utf8 (length bytes - first_bad bytes delim))
    else Ok (entries bytes delim)

-- in strict mode a first piece that isn't UTF-8 is refused, even if memory is out
abbrev pub RefusesFirst : {X : Type 0} → ParseMode → List ℕ → ℕ → Result X Error → Type 0
RefusesFirst mode bytes delim result =
    (mode ≡ Strict) → is_readable bytes delim 0 ≡ false → Refuses result (invalid_utf8 (length bytes))

-- the parsed table of all the bytes
abbrev pub table_of : ParseMode → List ℕ → ℕ → Result StringTable Refusal
table_of mode bytes delim = do
  _ ← walked mode bytes delim
  Ok (record { bytes = bytes; delim = delim; is_parsed = true })

-- the parsed table of a range of the file; an error of the range comes first
unfoldable pub strtab_of : ParseMode → List ℕ → ℕ → ℕ → ℕ → Result StringTable Refusal
strtab_of mode file offset size delim = do
  range ← refuse_as malformed (range_in mode file offset size)
  table_of mode range delim

-- the plain reading at an offset: the piece there, or the error of bytes that aren't UTF-8
abbrev pub plain : List ℕ → ℕ → ℕ → Result (List ℕ) Refusal
plain bytes delim offset = text_or_fault (piece bytes delim offset) (length bytes - offset)

-- whether a result is a text with these bytes
abbrev pub is_text_of : List ℕ → Result (List ℕ) Refusal → Bool
is_text_of name (Ok text) = bytes_eq text name
is_text_of name (Err refusal) = false

-- whether the plain reading at an offset is this name; past the bytes there is none
unfoldable pub has_name : List ℕ → ℕ → ℕ → List ℕ → Bool
has_name bytes delim offset name = nat_lt offset (length bytes) && is_text_of name (plain bytes delim offset)

-- the look-up at an offset; a table that wasn't parsed has no texts
abbrev pub look_up : StringTable → ℕ → Option (List ℕ)
look_up table offset = if table.is_parsed then text_at table.bytes table.delim offset else None

-- the texts of the entries
abbrev pub texts_of : Result (List (ℕ × List ℕ)) Refusal → Result (List (List ℕ)) Refusal
texts_of (Ok es) = Ok (map text_of es)
texts_of (Err e) = Err e

-- the strings of a table: the texts of its entries, or of a strict walk if it wasn't parsed
abbrev pub strings_of : StringTable → Result (List (List ℕ)) Refusal
strings_of table =
    texts_of (if table.is_parsed then Ok (entries table.bytes table.delim) else walked Strict table.bytes table.delim)
