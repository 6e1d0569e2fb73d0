-- The numbers of the constants of symbols, in the order in which the laws list their names (System V gABI, "Symbol
-- Table").
use Rattle.std.specs.Prelude.{ℕ, List, [], ◌∷◌}

-- bindings
abbrev pub bind_numbers : List ℕ
bind_numbers = 0 ∷ 1 ∷ 2 ∷ 3 ∷ 10 ∷ 10 ∷ 12 ∷ 13 ∷ 15 ∷ []

-- types
abbrev pub type_numbers : List ℕ
type_numbers = 0 ∷ 1 ∷ 2 ∷ 3 ∷ 4 ∷ 5 ∷ 6 ∷ 7 ∷ 10 ∷ 10 ∷ 12 ∷ 13 ∷ 15 ∷ []

-- visibilities
abbrev pub visibility_numbers : List ℕ
visibility_numbers = 0 ∷ 1 ∷ 2 ∷ 3 ∷ 4 ∷ 5 ∷ 6 ∷ []
