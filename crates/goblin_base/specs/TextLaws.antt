-- Laws of bytes that are UTF-8, and of string tables of such bytes.
use Rattle.goblin_base.specs.Common.{refl, sym, ap, subst, ◌∙◌, arith, take-add, cases_lt, range_with_len}
use Rattle.goblin_base.specs.Common.{position_or_len, result_ok, IsUtf8, is_utf8, IsCharBoundary, ParseMode, Strict}
use Rattle.goblin_base.specs.Common.{Permissive, suc, drop-drop, get_or-drop, get_or-take, length-drop, length-take-le}
use Rattle.std.proofs.Common.{◌≡◌, ℕ, zero, ◌+◌, ◌-◌, ◌<◌, ◌≤◌, ◌==◌, if◌then◌else◌, Bool, true, false, cond, not, eqb}
use Rattle.std.proofs.Common.{List, [], ◌++◌, length, get_or, take, drop, ⊎_elim, Some, None, Ok, Err, slice_range}
use Rattle.std.proofs.lemmas.Bool.{cases_Bool, cases_eq, cond-false, lt-ltb, le-ltb, eq-eqb, false_from_ne_true}
use Rattle.std.proofs.lemmas.List.FromFn.{length-range_with_len, get_or-range_with_len}
use Rattle.std.proofs.lemmas.List.Sums.{position_or_len_is, passes_at_first, prefix_len-le-length}
use Rattle.std.proofs.lemmas.Str.{IsUtf8-append, IsUtf8-drop, IsUtf8-take, IsUtf8-from_is_utf8, is_utf8-from_IsUtf8}
use Rattle.std.proofs.lemmas.Str.{IsCharBoundary-start, IsCharBoundary-end, IsCharBoundary-after_ascii}
use Rattle.std.proofs.lemmas.Str.{IsCharBoundary-before_ascii}
use Rattle.std.specs.Option.{unwrap_or}
use Rattle.goblin_base.specs.Pieces.{piece, piece_start, is_readable, is_bad_start, is_entry_place, first_bad, text_at}
use Rattle.goblin_base.specs.Refusal.{Refusal, malformed}
use Rattle.goblin_base.specs.Steps.{◌>>=◌, refuse_as}
use Rattle.goblin_base.specs.Strtab.{strtab_of, table_of, walked, plain}
use Rattle.goblin_base.specs.StrtabLaws.{TextIsTaken, NamesArePlain}
use Rattle.goblin_base.specs.Utf8.{invalid_utf8}

-- ---- ranges that are UTF-8

-- a range is two ranges, one right after the other
pub ranges-join : (bytes : List ℕ) (i j k : ℕ)
    → i ≤ j → j ≤ k → slice_range bytes i k ≡ slice_range bytes i j ++ slice_range bytes j k
ranges-join bytes i j k l m =
    let len : k - i ≡ (j - i) + (k - j) = omega arith in
    let place : i + (j - i) ≡ j = omega arith in
    let there : drop (j - i) (drop i bytes) ≡ drop j bytes = drop-drop (j - i) i bytes ∙ ap (λ x. drop x bytes) place in
    ap (λ n. take n (drop i bytes)) len
    ∙ take-add (j - i) (k - j) (drop i bytes)
    ∙ ap (λ r. take (j - i) (drop i bytes) ++ take (k - j) r) there

-- if both are UTF-8, so is the whole
pub texts-join : (bytes : List ℕ) (i j k : ℕ)
    → i ≤ j → j ≤ k → IsUtf8 (slice_range bytes i j) → IsUtf8 (slice_range bytes j k) → IsUtf8 (slice_range bytes i k)
texts-join bytes i j k l m a b = subst IsUtf8 (sym (ranges-join bytes i j k l m)) (IsUtf8-append _ _ a b)

-- a whole piece begins no later than any byte of it
pub start_to : (bytes : List ℕ) (d o : ℕ) → piece_start bytes d o ≤ o
unfolding piece_start
start_to bytes d zero = omega arith
start_to bytes d (suc o) =
    elim (eqb (get_or bytes o 0) d) as (λ b. cond b (suc o) (piece_start bytes d o) ≤ suc o) [
      | true ↦ omega arith
      | false ↦ omega (arith, start_to bytes d o)
    ]

-- ---- pieces of UTF-8, which an ASCII delimiter cuts
module _ (bytes : List ℕ) (d : ℕ) (ascii : d < 128) where
  -- the piece at a character boundary is UTF-8
  readable-at_boundary : (o : ℕ) → IsUtf8 bytes → IsCharBoundary bytes o → is_readable bytes d o ≡ true
  unfolding is_readable piece
  readable-at_boundary o u at =
      let ends : ℕ → Bool = λ b. b == d in
      let rest = drop o bytes in
      let n = position_or_len ends rest in
      let le : n ≤ length rest = prefix_len-le-length (λ b. not (ends b)) rest in
      is_utf8-from_IsUtf8 _ (IsUtf8-take rest n (IsUtf8-drop bytes o u at) (⊎_elim
      (λ (l : n < length rest).
      IsCharBoundary-before_ascii rest n l
      (let e : get_or rest n 0 ≡ d = grind (arith, passes_at_first ends rest 0 l) in omega arith))
      (λ (l : length rest ≤ n). let e : length rest ≡ n = omega arith in
      subst (IsCharBoundary rest) e (IsCharBoundary-end rest))
      (cases_lt n (length rest))))

  -- a whole piece begins at a character boundary
  boundary-at_start : (o : ℕ) → IsUtf8 bytes → o < length bytes → piece_start bytes d o ≡ o → IsCharBoundary bytes o
  unfolding piece_start
  boundary-at_start zero u l h = IsCharBoundary-start bytes u
  boundary-at_start (suc o) u l h = ⊎_elim
      (λ (e : eqb (get_or bytes o 0) d ≡ true). let is : get_or bytes o 0 ≡ d = grind arith in
      let next : o + 1 ≡ suc o = omega arith in
      subst (IsCharBoundary bytes) next (IsCharBoundary-after_ascii bytes o u (omega arith) (omega arith)))
      (λ (e : eqb (get_or bytes o 0) d ≡ false).
      absurd (omega (arith, cond-false _ (suc o) (piece_start bytes d o) e, h, start_to bytes d o)))
      (cases_Bool (eqb (get_or bytes o 0) d))

  no_bad_start : (o : ℕ) → IsUtf8 bytes → o < length bytes → is_bad_start bytes d o ≡ false
  unfolding is_bad_start
  no_bad_start o u l = ⊎_elim
      (λ (e : piece_start bytes d o ≡ o). rw (eq-eqb _ _ e, readable-at_boundary o u (boundary-at_start o u l e)) refl)
      (λ (n : piece_start bytes d o ≡ o → ⊥).
      rw (false_from_ne_true (eqb (piece_start bytes d o) o) (λ t. n (grind arith))) refl)
      (cases_eq (piece_start bytes d o) o)

  -- so each piece is UTF-8
  first_bad-text : IsUtf8 bytes → first_bad bytes d ≡ length bytes
  unfolding first_bad
  first_bad-text u =
      let n = length-range_with_len 0 (length bytes) in
      position_or_len_is (is_bad_start bytes d) (range_with_len 0 (length bytes)) (length bytes) 0 (omega (arith, n))
      (λ k h. let e : get_or (range_with_len 0 (length bytes)) k 0 ≡ k =
      get_or-range_with_len 0 (length bytes) k 0 h ∙ omega arith in
      ap (is_bad_start bytes d) e ∙ no_bad_start k u h)
      (λ h. absurd (omega (arith, n)))

  pub table_of-text : (mode : ParseMode)
      → IsUtf8 bytes → table_of mode bytes d ≡ Ok (record { bytes = bytes; delim = d; is_parsed = true })
  unfolding walked
  table_of-text Permissive u = refl
  table_of-text Strict u = rw (le-ltb (first_bad bytes d) (length bytes) (omega (arith, first_bad-text u))) refl

pub text_is_taken : TextIsTaken
unfolding strtab_of
text_is_taken mode file offset size d range ascii is u =
    ap (λ r. refuse_as malformed r >>= (λ bytes. table_of mode bytes d)) is ∙ table_of-text range d ascii mode u

-- ---- names
text_or_nothing : (readable entry : Bool) (piece : List ℕ) (e : Refusal)
    → unwrap_or (if readable then Some piece else (if entry then Some [] else None)) []
    ≡ unwrap_or (result_ok (if readable then Ok piece else Err e)) []
text_or_nothing readable entry piece e = grind arith

name-plain : (bytes : List ℕ) (d o : ℕ)
    → o < length bytes → unwrap_or (text_at bytes d o) [] ≡ unwrap_or (result_ok (plain bytes d o)) []
unfolding text_at is_readable
name-plain bytes d o l =
    rw (lt-ltb o (length bytes) l)
    (text_or_nothing (is_utf8 (piece bytes d o)) (is_entry_place bytes d o) (piece bytes d o) _)

pub names_are_plain : NamesArePlain
names_are_plain table o parsed l = rw parsed (name-plain table.bytes table.delim o l)

pub name-past : (bytes : List ℕ) (d o : ℕ) → length bytes ≤ o → unwrap_or (text_at bytes d o) [] ≡ []
unfolding text_at
name-past bytes d o l = rw (le-ltb o (length bytes) l) refl

-- a piece that begins with a continuation byte isn't UTF-8
unreadable-later : (bytes : List ℕ) (d o : ℕ)
    → d < 128 → o < length bytes → 128 ≤ get_or bytes o 0 → get_or bytes o 0 < 192 → is_utf8 (piece bytes d o) ≡ false
unfolding piece
unreadable-later bytes d o ascii l from to = false_from_ne_true _ (λ r.
    let ends : ℕ → Bool = λ b. b == d in
    let rest = drop o bytes in
    let n = position_or_len ends rest in
    let same : o + 0 ≡ o = omega arith in
    let first : get_or rest 0 0 ≡ get_or bytes o 0 = get_or-drop o bytes 0 0 ∙ ap (λ k. get_or bytes k 0) same in
    let some : 0 < length rest = omega (arith, length-drop o bytes) in
    let more : 0 < n = ⊎_elim (λ (x : 0 < n). x) (λ (x : n ≤ 0).
    let none : n ≡ 0 = omega arith in
    let at : get_or rest n 0 ≡ d = grind (arith, passes_at_first ends rest 0 (omega arith)) in
    absurd (omega (arith, ap (λ k. get_or rest k 0) none))) (cases_lt 0 n) in
    let le : n ≤ length rest = prefix_len-le-length (λ b. not (ends b)) rest in
    let size = length-take-le n rest le in
    let head : get_or (take n rest) 0 0 ≡ get_or rest 0 0 = get_or-take n rest 0 0 more in
    let at = IsCharBoundary-start (take n rest) (IsUtf8-from_is_utf8 (take n rest) r) in
    omega arith)

-- so its name is empty
pub name-later : (bytes : List ℕ) (d o : ℕ)
    → d < 128 → o < length bytes → 128 ≤ get_or bytes o 0 → get_or bytes o 0 < 192
    → unwrap_or (text_at bytes d o) [] ≡ []
name-later bytes d o ascii l from to =
    name-plain bytes d o l
    ∙ ap (λ b. unwrap_or (result_ok (if b then Ok (piece bytes d o) else Err (invalid_utf8 (length bytes - o)))) [])
    (unreadable-later bytes d o ascii l from to)
