-- Runs of a file's blocks that are text, or text with no zero byte.
use Rattle.std.specs.Prelude.{◌≡◌, ℕ, zero, suc, ◌+◌, ◌-◌, ◌*◌, ◌/◌, ◌<◌, ◌≤◌, ◌==◌, ◌&&◌, nat_lt, nat_le, min}
use Rattle.std.specs.Prelude.{if◌then◌else◌, List, [], ◌∷◌, length, slice_index, slice_range, Option}
use Rattle.goblin_text.specs.Common.{before_first, IsUtf8, BLOCK, BLOCKS}
use Rattle.std.specs.Option.{IfSome, MatchOption}
use Rattle.goblin_text.specs.declared.block_runs.Kind.{Kind}
use Rattle.goblin_text.specs.declared.block_runs.Kind.TheVariants.{Text, ZeroFree}

-- the place after a continuation byte, or the same place
unfoldable pub after_continuation : List ℕ → ℕ → ℕ
after_continuation bytes place =
    if nat_le 128 (slice_index bytes place) && nat_lt (slice_index bytes place) 192 then place + 1 else place

-- where the characters from a place on begin: after up to three continuation bytes
unfoldable pub char_start : List ℕ → ℕ → ℕ
char_start bytes place = after_continuation bytes (after_continuation bytes (after_continuation bytes place))

-- the string that bytes begin with: those before the first zero byte, or all
unfoldable pub up_to_zero : List ℕ → List ℕ
up_to_zero bytes = before_first (λ b. b == 0) bytes

-- the string is not UTF-8
abbrev pub LacksText : List ℕ → Type 0
LacksText bytes = ¬ (IsUtf8 (up_to_zero bytes))

-- the string from one place on ends at a stop, up to another place
pub record IsStringEnd (bytes : List ℕ) (from to stop : ℕ) : Type 0 where
  pub order : from ≤ stop
  pub within : stop ≤ to
  pub is : slice_range bytes from stop ≡ up_to_zero (slice_range bytes from to)

-- where the string from one place on ends, up to another, or `None` if it is not UTF-8
abbrev pub EndsAt : List ℕ → (from to : ℕ) → Option ℕ → Type 0
EndsAt bytes from to found = MatchOption found (LacksText (slice_range bytes from to)) (IsStringEnd bytes from to)

-- the string from a place on is text up to where it ends
abbrev pub IsTextUpTo : List ℕ → ℕ → Option ℕ → Type 0
IsTextUpTo bytes from found = IfSome found (λ stop. IsUtf8 (slice_range bytes from stop))

-- the bytes are text with no zero byte
pub record IsZeroFree (bytes : List ℕ) : Type 0 where
  pub text : IsUtf8 bytes
  pub whole : up_to_zero bytes ≡ bytes

-- the bytes are of a kind
abbrev pub IsOfKind : Kind → List ℕ → Type 0
IsOfKind Text bytes = IsUtf8 bytes
IsOfKind ZeroFree bytes = IsZeroFree bytes

-- the block after the one that a place lies in
abbrev pub next_block : ℕ → ℕ
next_block place = place / BLOCK + 1

-- the block that bytes up to a place end in, or before which their last character begins
abbrev pub last_block : ℕ → ℕ
last_block end = min ((end - 3) / BLOCK) BLOCKS

-- where the characters of the block with a number begin
abbrev pub block_start : List ℕ → ℕ → ℕ
block_start bytes block = char_start bytes (block * BLOCK)

-- a string goes on through blocks: no zero byte stands in as many bytes as a block has, and it may go on past the next
-- block
pub record IsLong (bytes : List ℕ) (place end : ℕ) : Type 0 where
  pub blocks : next_block place < last_block end
  pub within : end ≤ length bytes
  pub whole : up_to_zero (slice_range bytes place (place + BLOCK)) ≡ slice_range bytes place (place + BLOCK)

-- the block with a number is of a kind, from where its characters begin to where those of the next one do
unfoldable pub IsBlock : Kind → List ℕ → ℕ → Type 0
IsBlock kind bytes block = IsOfKind kind (slice_range bytes (block_start bytes block) (block_start bytes (block + 1)))

-- the blocks from one up to another are of a kind
abbrev pub IsRun : Kind → List ℕ → ℕ → ℕ → Type 0
IsRun kind bytes first next = (j : ℕ) → first ≤ j → j < next → IsBlock kind bytes j

-- how many whole blocks a file has, up to those of the longest one that the program takes
abbrev pub blocks : List ℕ → ℕ
blocks bytes = min (length bytes / BLOCK) BLOCKS

-- the run of a kind from a block on ends before another block, which is not of the kind, or at the last
pub record IsRunEnd (kind : Kind) (bytes : List ℕ) (first end : ℕ) : Type 0 where
  pub order : first ≤ end
  pub within : end ≤ blocks bytes
  pub run : IsRun kind bytes first end
  pub stops : end < blocks bytes → ¬ (IsBlock kind bytes end)

-- each end that is stored is the end of the run from its block on: 0 stands for a block whose run isn't known
unfoldable pub AreRunEnds : Kind → List ℕ → List ℕ → Type 0
AreRunEnds kind bytes ends =
    (k : ℕ) → k < length ends → 0 < slice_index ends k → IsRunEnd kind bytes k (slice_index ends k)

-- how many of the first blocks have a run that isn't known
unfoldable pub unknown : ℕ → List ℕ → ℕ
unknown zero ends = 0
unknown (suc n) [] = 0
unknown (suc n) (end ∷ ends) = (if end == 0 then 1 else 0) + unknown n ends
