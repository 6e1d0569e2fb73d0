-- The string tables of a file: ranges of its bytes, of which names are read where they stand.
use Rattle.std.specs.Prelude.{ℕ, true, List, slice_range}
use Rattle.goblin_text.specs.Common.{StringTable}
use Rattle.goblin_text.specs.declared.names.Strings.{Strings}

-- the table with the delimiter 0 of these bytes
abbrev pub text_table : List ℕ → StringTable
text_table bytes = record { bytes = bytes; delim = 0; is_parsed = true }

-- the table that strings of a file are
abbrev pub strings_in : List ℕ → Strings → StringTable
strings_in bytes strings = text_table (slice_range bytes strings.start strings.end)
