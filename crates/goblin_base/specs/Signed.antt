-- Signed numbers in bytes: two's complement (System V gABI, "Data Representation": Elf32_Sword and Elf64_Sxword).
use Rattle.std.specs.Prelude.{◌≡◌, ◌<◌, ◌≤◌, ◌+◌, ◌*◌, ◌-◌, ◌%◌, ◌^◌, ◌-ℤ◌, ℕ, ℤ, pos, negsuc, nat_lt, if◌then◌else◌}
use Rattle.std.specs.Prelude.{List, length, take, drop}
use Rattle.goblin_base.specs.Common.{Endian}
use Rattle.goblin_base.specs.Number.{IsBytes, number, number_at, spelled}
use Rattle.goblin_base.specs.Place.{with_number}

-- the signed number of `width` bytes with the number x: less by 256 ^ width if the top bit is set
abbrev pub signed_of : ℕ → ℕ → ℤ
signed_of width x = if nat_lt (2 * x) (256 ^ width) then pos x else pos x -ℤ pos (256 ^ width)

-- the signed number in some bytes
abbrev pub signed_number : Endian → List ℕ → ℤ
signed_number order bytes = signed_of (length bytes) (number order bytes)

-- the signed number in `width` bytes at an offset
abbrev pub signed_number_at : Endian → List ℕ → ℕ → ℕ → ℤ
signed_number_at order bytes place width = signed_of width (number_at order bytes place width)

-- the number whose bytes are those of a signed number, or of its low bits if it doesn't fit: -(x + 1) has the bits of
-- x, each one inverted
abbrev pub complement : ℕ → ℤ → ℕ
complement width (pos x) = x % 256 ^ width
complement width (negsuc x) = 256 ^ width - 1 - x % 256 ^ width

-- a signed number cut to a width
abbrev pub signed_low : ℕ → ℤ → ℤ
signed_low width z = signed_of width (complement width z)

-- a signed number fits a width: it is at least -(256 ^ width) / 2, and below 256 ^ width / 2
abbrev pub FitsSigned : ℕ → ℤ → Type 0
FitsSigned width (pos x) = 2 * x < 256 ^ width
FitsSigned width (negsuc x) = 2 * (x + 1) ≤ 256 ^ width

-- a signed number that fits a width is read back from its bytes
abbrev pub ReadsSigned : Type 0
ReadsSigned =
    (order : Endian) (width : ℕ) (z : ℤ)
    → FitsSigned width z → signed_number order (spelled order width (complement width z)) ≡ z

-- no other bytes of the same width have the same signed number
abbrev pub SpellsSigned : Type 0
SpellsSigned =
    (order : Endian) (bytes : List ℕ)
    → IsBytes bytes → spelled order (length bytes) (complement (length bytes) (signed_number order bytes)) ≡ bytes

-- the signed number at an offset is that of the slice there
abbrev pub IsSignedSlice : Type 0
IsSignedSlice =
    (order : Endian) (bytes : List ℕ) (place width : ℕ) → place + width ≤ length bytes
    → signed_number_at order bytes place width ≡ signed_number order (take width (drop place bytes))

-- a signed number that was written and fits its width is read back
abbrev pub ReadsSignedThere : Type 0
ReadsSignedThere =
    (order : Endian) (bytes : List ℕ) (place width : ℕ) (z : ℤ) → place + width ≤ length bytes → FitsSigned width z
    → signed_number_at order (with_number order bytes place width (complement width z)) place width ≡ z
