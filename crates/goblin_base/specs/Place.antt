-- Writing a number into a slice.
use Rattle.std.specs.Prelude.{◌≡◌, ◌≤◌, ◌+◌, ◌%◌, ◌^◌, ℕ, List, ◌++◌, length, take, drop}
use Rattle.goblin_base.specs.Common.{Endian}
use Rattle.goblin_base.specs.Number.{number_at, spelled}

-- the bytes after a number was written to `width` bytes at an offset
unfoldable pub with_number : Endian → List ℕ → ℕ → ℕ → ℕ → List ℕ
with_number order bytes place width x = take place bytes ++ spelled order width x ++ drop (place + width) bytes

-- a number that was written is read back, cut to its width
abbrev pub ReadsWhatWasPut : Type 0
ReadsWhatWasPut =
    (order : Endian) (bytes : List ℕ) (place width x : ℕ) → place + width ≤ length bytes
    → number_at order (with_number order bytes place width x) place width ≡ x % 256 ^ width
