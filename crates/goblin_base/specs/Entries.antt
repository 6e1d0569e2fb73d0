-- The entries of a string table, stored as places in its bytes and one closing place; bytes and places read under a
-- count.
use Rattle.std.specs.Prelude.{◌≡◌, ℕ, ◌+◌, ◌-◌, ◌^◌, ◌<◌, ◌≤◌, true, List, [], ◌∷◌, length, map, min, slice_range}
use Rattle.goblin_base.specs.Common.{is_utf8}

-- bytes, and how many looks were taken at them
pub record Seen : Type 0 where
  pub bytes : List ℕ
  pub count : ℕ

-- at least so many looks were taken since: a count stays at the greatest number once it is there
abbrev pub CountsAtLeast : ℕ → ℕ → ℕ → Type 0
CountsAtLeast before looks after = min (before + looks) (2 ^ 128 - 1) ≤ after

-- a reading under a count: the bytes stay the same, and at least and at most so many looks are taken
pub record Reads (old new : Seen) (least most : ℕ) : Type 0 where
  pub unchanged : new.bytes ≡ old.bytes
  pub looks : new.count ≤ old.count + most
  pub looks_least : CountsAtLeast old.count least new.count

-- places, and how many of them were read
pub record Probed : Type 0 where
  pub places : List ℕ
  pub count : ℕ

-- an entry is a place and a text
abbrev pub place_of : ℕ × List ℕ → ℕ
place_of entry = entry.0

abbrev pub text_of : ℕ × List ℕ → List ℕ
text_of entry = entry.1

-- the places of entries
abbrev pub places_of : List (ℕ × List ℕ) → List ℕ
places_of entries = map place_of entries

-- where the next entry is, or the closing place
abbrev pub next_of : List ℕ → ℕ → ℕ
next_of [] closing = closing
next_of (p ∷ ps) closing = p

-- each place with the bytes from there up to one before the next
abbrev pub entries_between : List ℕ → List ℕ → ℕ → List (ℕ × List ℕ)
entries_between bytes [] closing = []
entries_between bytes (p ∷ ps) closing =
    (p, slice_range bytes p (next_of ps closing - 1)) ∷ entries_between bytes ps closing

-- an entry from a place up to one before another is text in the bytes
pub record IsText (bytes : List ℕ) (p next : ℕ) : Type 0 where
  pub rising : p < next
  pub within : next ≤ length bytes + 1
  pub text : is_utf8 (slice_range bytes p (next - 1)) ≡ true

-- and so is each, up to one before the next
abbrev pub AreTexts : List ℕ → List ℕ → ℕ → Type 0
AreTexts bytes [] closing = Unit {0}
AreTexts bytes (p ∷ ps) closing = IsText bytes p (next_of ps closing) × AreTexts bytes ps closing
