-- The state of a target, and what is put into it.
use Rattle.std.specs.Prelude.{◌≡◌, ℕ, List, take, Option, Bool, false, IsTrue, Result, Ok, Err}
use Rattle.goblin_text.specs.Common.{Appends, append_known}

-- the bytes that it holds, if they are known, whether it reported an error, and whether it was called after that
pub record State : Type 0 where
  pub contents : Option (List ℕ)
  pub reported_error : Bool
  pub went_on : Bool

-- if no error was reported before, there was no call after one
abbrev pub Stops : State → State → Type 0
Stops old new = old.reported_error ≡ false → new.went_on ≡ old.went_on

-- it holds a text more and no other, and reported no new error; or it reported an error, and was not called after it
abbrev pub Prints : {E : Type 0} → State → State → Result (Unit {0}) E → List ℕ → Type 0
Prints old new (Ok done) text =
    Appends old.contents new.contents text × (new.reported_error ≡ old.reported_error) × Stops old new
Prints old new (Err e) text = IsTrue new.reported_error × Stops old new

-- the bytes that a writer holds, and then those that fill a room before it
unfoldable pub held : Option (List ℕ) → List ℕ → ℕ → Option (List ℕ)
held known room filled = append_known known (take filled room)
