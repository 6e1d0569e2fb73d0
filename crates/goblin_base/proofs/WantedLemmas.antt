-- Names among the strings of a table.
--
-- A text that stands at an offset and doesn't contain the delimiter is the piece there (`piece-name`). The piece itself
-- stands there and doesn't contain it (`piece-stands`, `piece-apart`). So comparing bytes decides whether the piece is
-- the text, without a search for the piece's end, and the UTF-8 of the name is that of the piece (`stands_Decides`).
use Rattle.goblin_base.proofs.Common.{rules, ◌≡◌, ℕ, ◌<◌, ◌≤◌, Bool, true, false, if◌then◌else◌, ◌&&◌, eqb, leb, ltb}
use Rattle.goblin_base.proofs.Common.{◌||◌, List, length, get_or, take, drop, sym, ap, ◌∙◌, ⊎_elim, arith, Result, Ok}
use Rattle.goblin_base.proofs.Common.{Err, cases_lt, both_ways, get_or-take, length-take-le, length-take, list_any_at}
use Rattle.goblin_base.proofs.Common.{list_any_none, prefix_len-le-length, fails_before_first, passes_at_first}
use Rattle.goblin_base.proofs.Common.{position_or_len_is, position_or_len, list_any, bytes_eq, is_utf8, piece, Refusal}
use Rattle.goblin_base.proofs.Common.{bytes_eq-Decides, Decides, has_name, is_text_of, plain, can_be_string, is_apart}
use Rattle.goblin_base.proofs.Common.{is_piece, stands_at, starts_piece}
use Rattle.std.proofs.Math.Seq.{take-take}
use Rattle.goblin_base.specs.StrtabLaws.{NamesAreRead, PiecesAreCompared, PiecesBegin}

module _ (bytes : List ℕ) (d o : ℕ) where
  abbrev ends : ℕ → Bool
  ends b = eqb b d

  abbrev rest : List ℕ
  rest = drop o bytes

  -- a name without the delimiter that stands at an offset is the piece there
  piece-name : (name : List ℕ) → stands_at bytes d o name ≡ true → list_any ends name ≡ false → piece bytes d o ≡ name
  unfolding piece stands_at
  piece-name name stands none =
      grind (arith, bytes_eq-Decides, length-take, position_or_len_is, get_or-take, list_any_at)

  -- the piece at an offset stands there
  piece-stands : stands_at bytes d o (piece bytes d o) ≡ true
  unfolding piece stands_at
  piece-stands = grind (arith, prefix_len-le-length, length-take-le, bytes_eq-Decides, passes_at_first)

  -- and doesn't contain the delimiter
  piece-apart : list_any ends (piece bytes d o) ≡ false
  unfolding piece
  piece-apart = grind (arith, length-take-le, prefix_len-le-length, list_any_none, get_or-take, fails_before_first)

  -- the bytes at an offset begin with a text that doesn't contain the delimiter
  abbrev begins : List ℕ → Bool
  begins text = bytes_eq (take (length text) rest) text && is_apart d text

  -- the delimiter, or the end, comes after it
  abbrev closed : List ℕ → Bool
  closed text = leb (length rest) (length text) || eqb (get_or rest (length text) 0) d

  -- both are so exactly if the text is the piece there
  piece_Decides : (text : List ℕ) → Decides (bytes_eq (piece bytes d o) text) ((closed text && begins text) ≡ true)
  unfolding is_apart stands_at
  piece_Decides text = grind (arith, bytes_eq-Decides, piece-stands, piece-apart, piece-name)

  -- a text without the delimiter with which the bytes at an offset begin begins the piece there
  text-starts : (text : List ℕ)
      → take (length text) rest ≡ text → list_any ends text ≡ false → take (length text) (piece bytes d o) ≡ text
  unfolding piece
  text-starts text same none =
      let n = length text in
      let within : n ≤ length rest = omega (arith, ap length same, length-take n rest) in
      let long : n ≤ position_or_len ends rest = ⊎_elim
      (λ (l : position_or_len ends rest < n).
      let k = position_or_len ends rest in
      let at : ends (get_or text k 0) ≡ true =
      ap ends (ap (λ xs. get_or xs k 0) (sym same) ∙ get_or-take n rest k 0 l)
      ∙ passes_at_first ends rest 0 (omega (arith, l, within)) in
      absurd (both_ways _ none (list_any_at ends text k 0 l at)))
      (λ (l : n ≤ position_or_len ends rest). l)
      (cases_lt (position_or_len ends rest) n) in
      take-take n (position_or_len ends rest) rest long ∙ same

  -- and if the piece begins with a text, so do the bytes, and the text doesn't contain the delimiter
  starts-text : (text : List ℕ)
      → take (length text) (piece bytes d o) ≡ text
      → (take (length text) rest ≡ text) × (list_any ends text ≡ false)
  unfolding piece
  starts-text text same = grind (arith, length-take, take-take, list_any_none, get_or-take, fails_before_first)

  begins_Decides : (text : List ℕ) → Decides (bytes_eq (take (length text) (piece bytes d o)) text) (begins text ≡ true)
  unfolding is_apart
  begins_Decides text = grind (arith, starts-text, bytes_eq-Decides, text-starts)

  -- a name stands at an offset and can be a string exactly if the piece there is UTF-8 and the name
  stands_Decides : (name : List ℕ)
      → Decides (stands_at bytes d o name && can_be_string d name)
      ((is_utf8 (piece bytes d o) ≡ true) × (piece bytes d o ≡ name))
  unfolding can_be_string
  stands_Decides name = grind (arith, piece-name, piece-stands, piece-apart)

-- so the plain reading returns it
reading_Decides : (u : Bool) (p name : List ℕ) (fault : Refusal)
    → Decides (is_text_of name (if u then Ok p else Err fault)) ((u ≡ true) × (p ≡ name))
reading_Decides u p name fault = search rules

pub name_is_standing : (bytes : List ℕ) (d o : ℕ) (name : List ℕ)
    → has_name bytes d o name ≡ (ltb o (length bytes) && (stands_at bytes d o name && can_be_string d name))
unfolding has_name
name_is_standing bytes d o name = grind (arith, reading_Decides, stands_Decides)

pub piece_is_standing : (bytes : List ℕ) (d o : ℕ) (text : List ℕ)
    → is_piece bytes d o text ≡ (ltb o (length bytes) && (closed bytes d o text && begins bytes d o text))
unfolding is_piece
piece_is_standing bytes d o text = grind (arith, piece_Decides)

pub piece_begins : (bytes : List ℕ) (d o : ℕ) (text : List ℕ)
    → starts_piece bytes d o text ≡ (ltb o (length bytes) && begins bytes d o text)
unfolding starts_piece
piece_begins bytes d o text = grind (arith, begins_Decides)

-- as propositions they are what the laws say
within_Decides : (o n : ℕ) (b : Bool) (P : Type 0) → Decides b P → Decides (ltb o n && b) ((o < n) × P)
within_Decides o n b P is = grind arith

text_Decides : (reading : Result (List ℕ) Refusal) (name : List ℕ)
    → Decides (is_text_of name reading) (reading ≡ Ok name)
text_Decides reading name = search rules

pub names_are_read : NamesAreRead
unfolding has_name
names_are_read bytes d o name = within_Decides o (length bytes) _ _ (text_Decides (plain bytes d o) name)

pub pieces_are_compared : PiecesAreCompared
unfolding is_piece
pieces_are_compared bytes d o text = within_Decides o (length bytes) _ _ (bytes_eq-Decides (piece bytes d o) text)

pub pieces_begin : PiecesBegin
unfolding starts_piece
pieces_begin bytes d o text = within_Decides o (length bytes) _ _ (bytes_eq-Decides _ text)
