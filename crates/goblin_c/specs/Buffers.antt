-- What is written into a buffer.
use Rattle.goblin_c.specs.Common.{GoblinReloc, GoblinSection, GoblinSegment, GoblinSymbol}
use Rattle.std.specs.Prelude.{List, Some, [], length, min, slice_get, take, ℕ, ◌++◌, ◌<◌, ◌∷◌, ◌≡◌, ◌≤◌}

-- a buffer with as many items of a list as it holds, unchanged after them
abbrev pub laid : {X : Type 0} → List X → List X → List X
laid [] old = old
laid (x ∷ xs) [] = []
laid (x ∷ xs) (o ∷ os) = x ∷ laid xs os

-- a text with a zero byte after it
abbrev pub closed : List ℕ → List ℕ
closed text = text ++ 0 ∷ []

-- What a call returns and writes that writes a text: the length of the text, and as much of it, with a zero byte after
-- it, as the buffer holds.
abbrev pub WritesText : List ℕ → List ℕ → ℕ → List ℕ → Type 0
WritesText text old result new = (new ≡ laid (closed text) old) × (result ≡ length text)

-- a buffer is as long as it was: it holds as many of these items as fit, and is unchanged after them
abbrev pub IsFilled : {X : Type 0} → List X → List X → List X → Type 0
IsFilled items old new =
    let filled = min (length items) (length old) in
    (length new ≡ length old)
    × ((k : ℕ) → k < filled → slice_get new k ≡ slice_get items k)
    × ((k : ℕ) → filled ≤ k → slice_get new k ≡ slice_get old k)

-- so is the buffer that calls fill with bytes, sections, segments, symbols and relocations
pub record BufferIsFilled : Type 0 where
  pub bytes : (text old : List ℕ) → IsFilled text old (laid text old)
  pub sections : (sections old : List GoblinSection) → IsFilled sections old (laid sections old)
  pub segments : (segments old : List GoblinSegment) → IsFilled segments old (laid segments old)
  pub symbols : (symbols old : List GoblinSymbol) → IsFilled symbols old (laid symbols old)
  pub relocs : (relocs old : List GoblinReloc) → IsFilled relocs old (laid relocs old)

-- a text that is shorter than the buffer stands at its start, and a zero byte after it
abbrev pub TextIsClosed : Type 0
TextIsClosed =
    (text old : List ℕ) → length text < length old
    → (take (length text) (laid (closed text) old) ≡ text)
    × (slice_get (laid (closed text) old) (length text) ≡ Some 0)
