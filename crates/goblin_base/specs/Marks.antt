-- Marks of sixteen bytes that are read at once: a bit for each.
use Rattle.std.specs.Prelude.{◌≡◌, ℕ, ◌-◌, ◌<◌, ◌≤◌, ◌==◌, Bool, List, length, map, take, drop, nat_le, slice_index}
use Rattle.std.specs.Simd.Lanes.{mask_l}
use Rattle.goblin_base.specs.declared.marks.Marks.{Marks}

-- bytes, marked if a test holds: the lowest bit is the first byte's
abbrev pub mask_of : (ℕ → Bool) → List ℕ → ℕ
mask_of test bytes = mask_l (map test bytes)

-- the sixteen bytes before an offset, marked
abbrev pub marks_before : (ℕ → Bool) → List ℕ → ℕ → ℕ
marks_before test bytes until = mask_of test (take 16 (drop (until - 16) bytes))

-- these are marks of the sixteen bytes before `until`: one set for the delimiter, one for bytes that aren't ASCII
pub record AreMarks (bytes : List ℕ) (delim : ℕ) (m : Marks) : Type 0 where
  pub room : 16 ≤ m.until
  pub within : m.until ≤ length bytes
  pub delims : m.delims ≡ marks_before (λ b. b == delim) bytes m.until
  pub highs : m.highs ≡ marks_before (λ b. nat_le 128 b) bytes m.until

-- and where none were read yet, `until` is 0
abbrev pub HaveMarks : List ℕ → ℕ → Marks → Type 0
HaveMarks bytes delim m = 0 < m.until → AreMarks bytes delim m

-- the bytes from one place up to another are ASCII
abbrev pub AreAscii : List ℕ → ℕ → ℕ → Type 0
AreAscii bytes from to = (k : ℕ) → from ≤ k → k < to → slice_index bytes k < 128
