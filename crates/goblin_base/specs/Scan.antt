-- What the walk over a string table's bytes finds.
use Rattle.std.specs.Prelude.{◌≡◌, ℕ, ◌+◌, ◌-◌, ◌*◌, ◌<◌, ◌≤◌, ◌==◌, false, true, List, ◌++◌, length, if◌then◌else◌}
use Rattle.goblin_base.specs.Common.{Awaited}
use Rattle.goblin_base.specs.declared.walk.Found.{Found}
use Rattle.goblin_base.specs.declared.walk.Found.TheVariants.{Whole, Fault}
use Rattle.goblin_base.specs.Entries.{AreTexts, entries_between}
use Rattle.goblin_base.specs.Pieces.{piece_end, is_readable, entries_from, entries}

-- the piece at o is UTF-8, and ends there
pub record IsWhole (bytes : List ℕ) (delim o end : ℕ) : Type 0 where
  pub readable : is_readable bytes delim o ≡ true
  pub ends : end ≡ piece_end bytes delim o
  pub ordered : o ≤ end
  pub within : end ≤ length bytes

-- no offset from o up to `next` has a piece that is UTF-8
pub record IsDamaged (bytes : List ℕ) (delim o next : ℕ) : Type 0 where
  pub none : (q : ℕ) → o ≤ q → q < next → is_readable bytes delim q ≡ false
  pub further : o < next
  pub within : next ≤ length bytes

-- an attempt at o found what it reports
abbrev pub IsScan : List ℕ → ℕ → ℕ → Found → Type 0
IsScan bytes delim o (Whole end) = IsWhole bytes delim o end
IsScan bytes delim o (Fault next) = IsDamaged bytes delim o next

-- the looks that an attempt may take: the bytes of the piece and one more, or two for each byte that is passed
abbrev pub looks_of : ℕ → Found → ℕ
looks_of o (Whole end) = end + 1 - o
looks_of o (Fault next) = 2 * (next - o)

-- the end of the piece, or where the next attempt begins
abbrev pub found_end : Found → ℕ
found_end (Whole end) = end
found_end (Fault next) = next

-- the result of an attempt that reaches the end of its piece
abbrev pub scan_end : Awaited → ℕ → Found
scan_end awaited at = if awaited.more == 0 then Whole at else Fault at

-- the walk has come to i: the entries at these places and those from i on are all entries
pub record IsWalkedTo (bytes : List ℕ) (delim : ℕ) (places : List ℕ) (i : ℕ) : Type 0 where
  pub texts : AreTexts bytes places i
  pub found : entries_between bytes places i ++ entries_from bytes delim i ≡ entries bytes delim
