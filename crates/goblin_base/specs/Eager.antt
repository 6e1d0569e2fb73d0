-- Lists of records that are read at once, one after another from an offset on.
use Rattle.std.specs.Prelude.{◌+◌, ◌-◌, ◌/◌, ℕ, zero, suc, nat_lt, min, List, length, drop, Result, Ok}
use Rattle.goblin_base.specs.declared.scroll.Error.{Error as Misplaced}
use Rattle.goblin_base.specs.Refusal.{Refusal, buffer_too_short, misplaced}
use Rattle.goblin_base.specs.Room.{room_of}
use Rattle.goblin_base.specs.Steps.{◌>>=◌, refuse_if, refuse_as}
use Rattle.goblin_base.specs.Record.{records}

-- `count` records lie in `len` bytes from an offset on, or else the error of the first one that doesn't
abbrev pub room_of_each : ℕ → ℕ → ℕ → ℕ → Result (Unit {0}) Misplaced
room_of_each len offset size zero = Ok tt
room_of_each len offset size (suc count) = do
  _ ← room_of len offset size
  room_of_each len (offset + size) size count

-- the records, after a test that the bytes could hold so many at all: if they couldn't, the error names `items`
unfoldable pub records_from : {R : Type 0} → ℕ → (List ℕ → R) → List ℕ → ℕ → ℕ → List ℕ → Result (List R) Refusal
records_from size read bytes offset count items = do
  _ ← refuse_if (nat_lt (length bytes / size) count) (buffer_too_short count items)
  _ ← refuse_as misplaced (room_of_each (length bytes) offset size count)
  Ok (records size read count (drop offset bytes))

-- the records, or the error of the first one that doesn't lie in the bytes
unfoldable pub records_in : {R : Type 0} → ℕ → (List ℕ → R) → List ℕ → ℕ → ℕ → Result (List R) Refusal
records_in size read bytes offset count = do
  _ ← refuse_as misplaced (room_of_each (length bytes) offset size count)
  Ok (records size read count (drop offset bytes))

-- how many of `count` such records lie whole in `len` bytes
abbrev pub whole_of : ℕ → ℕ → ℕ → ℕ → ℕ
whole_of len start size count = min count ((len - start) / size)
