-- Laws of reading and writing a record at the start of a byte slice.
use Rattle.goblin_base.specs.Common.{refl, ap, arith, nat_tests, Error, set-get_or, reverse-reverse}
use Rattle.std.proofs.Common.{◌≡◌, ◌<◌, ◌≤◌, ◌+◌, ℕ, List, ◌++◌, length, drop, Result, Ok, Err}
use Rattle.goblin_base.specs.declared.error.Error.TheVariants.{Scroll}
use Rattle.goblin_base.specs.declared.scroll.Error.{Error as Misplaced}
use Rattle.goblin_base.specs.declared.scroll.Error.TheVariants.{TooBig}
use Rattle.goblin_base.specs.Room.{room_of}
use Rattle.goblin_base.specs.Record.{unless_fault, read_within, Writes}

-- bytes that lie in the slice pass the test of room
pub room_of_fits : (len offset size : ℕ) → offset + size ≤ len → room_of len offset size ≡ Ok tt
unfolding room_of
room_of_fits len offset size h = grind (arith, nat_tests)

-- bytes that pass the test of room lie in the slice
pub fits-room_of : (len offset size : ℕ) (u : Unit {0}) → room_of len offset size ≡ Ok u → offset + size ≤ len
unfolding room_of
fits-room_of len offset size u e = grind (arith, nat_tests)

-- if some bytes are there, and fewer than are needed, they are too few
pub room_of-few : (len size : ℕ) → 0 < len → len < size → room_of len 0 size ≡ Err (TooBig size len)
unfolding room_of
room_of-few len size some less = grind (arith, nat_tests)

-- if the test of room passes, reading returns the record
pub read_within-ok : {X : Type 0} (size s : ℕ) (read : List ℕ → X) (bytes : List ℕ) (u : Unit {0}) (x : X)
    → s ≡ size → Ok u ≡ room_of (length bytes) 0 s → x ≡ read bytes → Ok x ≡ read_within size read bytes
unfolding read_within
read_within-ok size s read bytes u x same e is = rw (← same, ← e) (ap Ok is)

-- if it fails, reading returns its error
pub read_within-err : {X : Type 0} (size s : ℕ) (read : List ℕ → X) (bytes : List ℕ) (e : Misplaced)
    → s ≡ size → Err e ≡ room_of (length bytes) 0 s → Err (Scroll e) ≡ read_within size read bytes
unfolding read_within
read_within-err size s read bytes e same is = rw (← same, ← is) refl

-- if a value was read, the test of room passed, and it is that value
pub unless_fault-is : {X : Type 0} (room : Result (Unit {0}) Misplaced) (x y : X)
    → Ok x ≡ unless_fault room y → (room ≡ Ok tt) × (x ≡ y)
unless_fault-is room x y e = grind (arith, nat_tests)

-- if an error was returned, it is that of room
pub unless_fault-err : {X : Type 0} (room : Result (Unit {0}) Misplaced) (e : Error) (y : X)
    → Err e ≡ unless_fault room y → (d : Misplaced) × (room ≡ Err d) × (e ≡ Scroll d)
unless_fault-err room e y is = grind (arith, nat_tests)

-- if the test of room passes, the image is written to the start
pub Writes-ok : (size s : ℕ) (image old new : List ℕ) (u : Unit {0})
    → s ≡ size → Ok u ≡ room_of (length old) 0 s → new ≡ image ++ drop size old → Writes size image old (Ok s) new
unfolding Writes
Writes-ok size s image old new u same e h = rw (← same, ← e) (refl, rw same h)

-- if it fails, nothing changes
pub Writes-err : (size s : ℕ) (image old new : List ℕ) (e : Misplaced)
    → s ≡ size → Err e ≡ room_of (length old) 0 s → new ≡ old → Writes size image old (Err (Scroll e)) new
unfolding Writes
Writes-err size s image old new e same is kept = rw (← same, ← is) (refl, kept)

-- for the functions that read and write
pub ruleset record_answers = (read_within-ok, read_within-err, Writes-ok, Writes-err, set-get_or, reverse-reverse)
