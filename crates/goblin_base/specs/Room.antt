-- Ranges of bytes: where one ends, and the test whether some bytes lie in a slice.
use Rattle.std.specs.Prelude.{◌+◌, ◌-◌, ◌^◌, ◌&&◌, ◌||◌, ◌==◌, ℕ, min, nat_lt, if◌then◌else◌, Result, Ok, Err}
use Rattle.goblin_base.specs.declared.scroll.Error.{Error as Misplaced}
use Rattle.goblin_base.specs.declared.scroll.Error.TheVariants.{TooBig, BadOffset}

-- `size` bytes at `offset` lie in a slice of `len` bytes, or else the error: the offset is past the end, or at the end
-- when bytes are needed; or too few bytes are left
unfoldable pub room_of : ℕ → ℕ → ℕ → Result (Unit {0}) Misplaced
room_of len offset size =
    if nat_lt len offset || ((offset == len) && nat_lt 0 size) then Err (BadOffset offset)
    else if nat_lt (len - offset) size then Err (TooBig size (len - offset))
    else Ok tt

-- the start and the end of a range; an end past the greatest 64-bit number is that number
abbrev pub span : ℕ → ℕ → ℕ × ℕ
span start size = (start, min (start + size) (2 ^ 64 - 1))
