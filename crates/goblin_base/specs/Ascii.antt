-- The ASCII bytes at the start of a string.
use Rattle.std.specs.Prelude.{ℕ, Bool, ◌==◌, ◌||◌, nat_le, if◌then◌else◌}
use Rattle.goblin_base.specs.Common.{w64, trailing_zeros}

-- whether a byte ends the run: it is the delimiter, or not ASCII
abbrev pub ends_run : ℕ → ℕ → Bool
ends_run delim b = b == delim || nat_le 128 b

-- the index of the lowest bit that is set, or `other` if none is
abbrev pub lowest_set : ℕ → ℕ → ℕ
lowest_set mask other = if mask == 0 then other else trailing_zeros w64 mask
