-- Lines that are added to a text.
use Rattle.std.specs.Prelude.{◌≡◌, ◌≢◌, ◌++◌, ℕ, List, [], ◌∷◌, Result, Ok, Err}
use Rattle.goblin_base.specs.Common.{Error}
use Rattle.goblin_base.specs.Refusal.{Refusal, out_of_memory, refusal_of}

-- the end of a line
abbrev pub newline : List ℕ
newline = 10 ∷ []

-- the expected lines were added to a text, or the expected refusal was returned, unless memory is out
abbrev pub Adds : List ℕ → List ℕ → Result (Unit {0}) Error → Result (List ℕ) Refusal → Type 0
Adds old new (Ok done) expected = (lines : List ℕ) × (expected ≡ Ok lines) × (new ≡ old ++ lines)
Adds old new (Err e) expected = refusal_of e ≢ out_of_memory → expected ≡ Err (refusal_of e)
