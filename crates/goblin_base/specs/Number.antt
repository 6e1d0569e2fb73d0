-- Numbers in bytes (System V gABI, "Data Encoding"). A byte is a number below 256.
use Rattle.std.specs.Prelude.{◌≡◌, ◌<◌, ◌+◌, ◌*◌, ◌/◌, ◌%◌, ◌^◌, ℕ, zero, suc, List, [], ◌∷◌, length, reverse}
use Rattle.std.specs.Prelude.{slice_index, take, drop}
use Rattle.goblin_base.specs.declared.container.Endian.{Endian}
use Rattle.goblin_base.specs.declared.container.Endian.TheVariants.{Little, Big}

-- each number of the list is a byte
abbrev pub IsBytes : List ℕ → Type 0
IsBytes bytes = (i : ℕ) → slice_index bytes i < 256

-- the sum of each byte times a power of 256: `rank` is the exponent at the first byte, and rises by 1 with each byte
abbrev pub weighted_sum : ℕ → List ℕ → ℕ
weighted_sum rank [] = 0
weighted_sum rank (byte ∷ bytes) = byte * 256 ^ rank + weighted_sum (rank + 1) bytes

-- the number in some bytes: in little endian the first byte is the lowest, in big endian the last one is
unfoldable pub number : Endian → List ℕ → ℕ
number Little bytes = weighted_sum 0 bytes
number Big bytes = weighted_sum 0 (reverse bytes)

-- the number in `width` bytes at an offset
abbrev pub number_at : Endian → List ℕ → ℕ → ℕ → ℕ
number_at order bytes place width = number order (take width (drop place bytes))

-- the lowest `width` digits of a number in base 256, the lowest first
abbrev pub low_bytes : ℕ → ℕ → List ℕ
low_bytes zero x = []
low_bytes (suc width) x = x % 256 ∷ low_bytes width (x / 256)

-- the `width` bytes of a number, or of its low digits if it doesn't fit
unfoldable pub spelled : Endian → ℕ → ℕ → List ℕ
spelled Little width x = low_bytes width x
spelled Big width x = reverse (low_bytes width x)

-- a number that fits a width is read back from its bytes
abbrev pub ReadsSpelling : Type 0
ReadsSpelling = (order : Endian) (width x : ℕ) → x < 256 ^ width → number order (spelled order width x) ≡ x

-- no other bytes of the same width have the same number
abbrev pub SpellsBack : Type 0
SpellsBack =
    (order : Endian) (bytes : List ℕ) → IsBytes bytes → spelled order (length bytes) (number order bytes) ≡ bytes

-- any number is written as `width` bytes
abbrev pub SpellsWidth : Type 0
SpellsWidth = (order : Endian) (width x : ℕ) → length (spelled order width x) ≡ width
