-- The looks at a file for its names: the view of what reads them, and how many looks it may take.
use Rattle.std.specs.Prelude.{◌≡◌, ℕ, ◌+◌, ◌*◌, ◌≤◌, ◌==◌, if◌then◌else◌, List, [], ◌∷◌, length, Result, Ok, Err}
use Rattle.std.specs.Prelude.{unwrap_or}
use Rattle.goblin_text.specs.Common.{ParseMode, read_header, refusal_of, ◌>>=◌, refuse_as, BLOCK, ctx_of}
use Rattle.std.specs.Result.{result_ok}
use Rattle.goblin_base.specs.Entries.{CountsAtLeast}
use Rattle.goblin_text.specs.RunOutcome.{input_limit}
use Rattle.goblin_text.specs.Shown.{sections_of, shown}

-- the bytes of a file, how many looks at them were taken, how many more the blocks may take that weren't read yet, and
-- where the range stands that was last found to be text
pub record NamesView : Type 0 where
  pub bytes : List ℕ
  pub count : ℕ
  pub left : ℕ
  pub text_start : ℕ
  pub text_end : ℕ

-- the range that was last found to be text is the one from one place to another
abbrev pub IsCached : NamesView → (start end : ℕ) → Type 0
IsCached names start end = (names.text_start ≡ start) × (names.text_end ≡ end)

-- no byte was looked at yet
pub record IsUnread (names : NamesView) : Type 0 where
  pub none : names.count ≡ 0
  pub left : names.left ≤ 5 * length names.bytes

-- the file is no longer than the program takes
abbrev pub IsShort : List ℕ → Type 0
IsShort bytes = length bytes ≤ input_limit

-- so many looks were taken at most, beside those that blocks took which weren't read before
abbrev pub LooksAtMost : (old new : NamesView) (most : ℕ) → Type 0
LooksAtMost old new most = new.count + new.left ≤ old.count + old.left + most

-- a reading of names under a count: the bytes stay the same, at least so many looks are taken, and at most so many if
-- the file is no longer than the program takes
pub record ReadsNames (old new : NamesView) (least most : ℕ) : Type 0 where
  pub unchanged : new.bytes ≡ old.bytes
  pub looks : IsShort old.bytes → LooksAtMost old new most
  pub looks_least : CountsAtLeast old.count least new.count

-- how many looks are taken at most by what has this result: where bytes are refused, two more at each of them
abbrev pub looks_by : {T E : Type 0} → Result T E → (most : ℕ) → List ℕ → ℕ
looks_by (Ok done) most bytes = most
looks_by (Err e) most bytes = most + 2 * length bytes

-- how many looks a block takes, which is read once: two at each of its bytes and of three more, and six at its edges
abbrev pub block_looks : ℕ
block_looks = 2 * (BLOCK + 3) + 6

-- how many looks a string table takes: at its two ends, which are shorter than a block and a character
abbrev pub table_looks : ℕ
table_looks = 1040

-- how many looks a name takes beside its own length: at no more than five blocks
abbrev pub name_looks : ℕ
name_looks = 2600

-- how many looks a line takes beside its length: its name, and the table of a section
abbrev pub line_looks : ℕ
line_looks = 4096

-- how many section headers a file has, or 0 where they are refused
unfoldable pub section_count : ParseMode → List ℕ → ℕ
section_count mode bytes = length (unwrap_or (result_ok (do
  header ← refuse_as refusal_of (read_header bytes)
  ctx ← refuse_as refusal_of (ctx_of header.0)
  sections_of mode bytes header.0 ctx)) [])

-- how many lines a text has
abbrev pub lines_in : List ℕ → ℕ
lines_in [] = 0
lines_in (b ∷ bytes) = (if b == 10 then 1 else 0) + lines_in bytes

-- how many looks names may take that stand in a text, one a line at most
unfoldable pub names_looks : List ℕ → ℕ
names_looks text = length text + name_looks * lines_in text

-- how many looks the string tables of a file may take, where they are refused
abbrev pub tables_looks : ParseMode → List ℕ → ℕ
tables_looks mode bytes = table_looks * (section_count mode bytes + 1) + 2 * length bytes

-- how many looks names may take that stand in the text of a file
abbrev pub shown_looks : ParseMode → List ℕ → ℕ
shown_looks mode bytes = names_looks (unwrap_or (result_ok (shown mode bytes)) [])
