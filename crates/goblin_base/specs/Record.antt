-- Reading and writing records at the start of some bytes, and one after another.
use Rattle.std.specs.Prelude.{◌≡◌, ◌+◌, ◌*◌, ℕ, List, ◌++◌, length, drop, map, slice_range, Result, Ok, Err}
use Rattle.std.specs.List.{range_with_len}
use Rattle.goblin_base.specs.declared.error.Error.{Error}
use Rattle.goblin_base.specs.declared.error.Error.TheVariants.{Scroll}
use Rattle.goblin_base.specs.declared.scroll.Error.{Error as Misplaced}
use Rattle.goblin_base.specs.Room.{room_of}

-- a value, or the error if a test of room failed
abbrev pub unless_fault : {X : Type 0} → Result (Unit {0}) Misplaced → X → Result X Error
unless_fault (Ok _) x = Ok x
unless_fault (Err e) x = Err (Scroll e)

-- the record in the first `size` bytes, or the error of room if there are fewer
unfoldable pub read_within : {X : Type 0} → ℕ → (List ℕ → X) → List ℕ → Result X Error
read_within size read bytes = unless_fault (room_of (length bytes) 0 size) (read bytes)

-- after the test of room: the image is written to the start, no other byte changes, and the size is returned;
-- or nothing changes, and the error is returned
abbrev pub WritesUnless : Result (Unit {0}) Misplaced → ℕ → List ℕ → List ℕ → Result ℕ Error → List ℕ → Type 0
WritesUnless (Ok _) size image old answer new = (answer ≡ Ok size) × (new ≡ image ++ drop size old)
WritesUnless (Err e) size image old answer new = (answer ≡ Err (Scroll e)) × (new ≡ old)

-- what writing the image of a record over old bytes returns, and the new bytes
unfoldable pub Writes : ℕ → List ℕ → List ℕ → Result ℕ Error → List ℕ → Type 0
Writes size image old answer new = WritesUnless (room_of (length old) 0 size) size image old answer new

-- the first `count` records of the bytes: the record with index i is read from `bytes[i * size .. (i + 1) * size]`
unfoldable pub records : {R : Type 0} → ℕ → (List ℕ → R) → ℕ → List ℕ → List R
records size read count bytes = map (λ i. read (slice_range bytes (i * size) ((i + 1) * size))) (range_with_len 0 count)
