-- A name that is searched for among the strings of a table.
use Rattle.std.specs.Prelude.{ℕ, Bool, false, ◌≡◌, ◌≤◌, ◌<◌, not, ◌&&◌, ◌||◌, ◌==◌, List, length, take, drop}
use Rattle.std.specs.Prelude.{slice_index, nat_le, nat_lt}
use Rattle.goblin_base.specs.Common.{list_any, bytes_eq, is_utf8}
use Rattle.goblin_base.specs.Pieces.{piece}
use Rattle.goblin_base.specs.Strtab.{StringTable}

-- the bytes of a name, and the delimiter of the strings that are searched
pub record Name : Type 0 where
  pub bytes : List ℕ
  pub delim : ℕ

-- the table, and the bytes of the name
pub record Search : Type 0 where
  pub table : StringTable
  pub name : List ℕ

-- a text doesn't contain the delimiter
unfoldable pub is_apart : ℕ → List ℕ → Bool
is_apart delim text = not (list_any (λ b. b == delim) text)

-- the piece at o is this text, and the piece at o begins with it; past the bytes there is no piece
unfoldable pub is_piece : List ℕ → ℕ → ℕ → List ℕ → Bool
is_piece bytes delim o text = nat_lt o (length bytes) && bytes_eq (piece bytes delim o) text

unfoldable pub starts_piece : List ℕ → ℕ → ℕ → List ℕ → Bool
starts_piece bytes delim o text = nat_lt o (length bytes) && bytes_eq (take (length text) (piece bytes delim o)) text

-- from i up to j the bytes are those of a text, and none is the delimiter
unfoldable pub IsAlike : ℕ → List ℕ → List ℕ → ℕ → ℕ → Type 0
IsAlike delim bytes text i j = (k : ℕ) → i ≤ k → k < j
    → (slice_index bytes k ≡ slice_index text k) × ((slice_index text k == delim) ≡ false)

-- a string can have these bytes: they are UTF-8, and don't contain the delimiter
unfoldable pub can_be_string : ℕ → List ℕ → Bool
can_be_string delim name = is_utf8 name && not (list_any (λ b. b == delim) name)

-- the bytes at o begin with the name, and the delimiter or the end comes after it
unfoldable pub stands_at : List ℕ → ℕ → ℕ → List ℕ → Bool
stands_at bytes delim o name =
    bytes_eq (take (length name) (drop o bytes)) name
    && (nat_le (length (drop o bytes)) (length name) || (slice_index (drop o bytes) (length name) == delim))
