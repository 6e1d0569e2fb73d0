-- Edges: where the characters from a place on begin.
--
-- A character that began before a place p has up to three more bytes from p on. Each of them goes on with a character:
-- it is from 0x80 on, and below 0xC0. They are passed over, so a text that holds the bytes round p may be cut at the
-- edge.
--
--     .. c1  c2 | c3  c4 | d1  d2 ..      c, d: two characters of a text, of four bytes and of two
--               p        edge
--
-- In bytes that are not UTF-8 more than three may go on. Then the edge is p + 3, and no UTF-8 contains the four bytes
-- from p on.
use Rattle.goblin_text.proofs.Common.{◌≡◌, ◌∙◌, ℕ, ◌+◌, ◌-◌, ◌<◌, ◌≤◌, true, List, [], ◌∷◌, ◌++◌, length, get_or, take}
use Rattle.goblin_text.proofs.Common.{drop, refl, sym, ap, subst, ⊎_elim, arith, length-append, slice_range}
use Rattle.goblin_text.proofs.Common.{take-append_seam, drop-append_seam, cases_lt, nat_tests, take-take}
use Rattle.goblin_text.proofs.Common.{IsCharBoundary-start, IsUtf8-drop, IsUtf8-take, IsUtf8, IsCharBoundary, LacksText}
use Rattle.goblin_text.proofs.Common.{char_start, after_continuation, up_to_zero, IsCharBoundary-at_seam}
use Rattle.goblin_text.proofs.Common.{IsCharBoundary-from_rest, len_utf8_bounds, length-encode, encode, length_of_range}
use Rattle.goblin_text.proofs.Common.{get_in_range, ranges-join, zero, suc, ◌*◌, texts-join, Kind, Text, ZeroFree}
use Rattle.goblin_text.proofs.Common.{BLOCK, IsBlock, IsOfKind, IsZeroFree, IsRun, block_start}
use Rattle.goblin_text.proofs.Common.{IsCharBoundary-from_take, IsUtf8-append}
use Rattle.std.proofs.lemmas.Bool.{and_parts}
use lib.Utf8.{encodes, scalar, scalars}
use Rattle.goblin_text.proofs.ByteRanges.{rest_of_range}
use Rattle.goblin_text.proofs.Strings.{get_up, goes_on, no_zero_whole, stops, whole, whole_no_zero}

-- a byte that goes on with a character
abbrev IsContinuation : ℕ → Type 0
IsContinuation b = (128 ≤ b) × (b < 192)

-- ---- the edge
pub char_start_bounds : (bytes : List ℕ) (place : ℕ)
    → (place ≤ char_start bytes place) × (char_start bytes place ≤ place + 3)
unfolding char_start after_continuation
char_start_bounds bytes place = (grind (arith, nat_tests), grind (arith, nat_tests))

-- what stands between a place and its edge goes on with a character
passed_to_start : (bytes : List ℕ) (p q : ℕ) → p ≤ q → q < char_start bytes p → IsContinuation (get_or bytes q 0)
unfolding char_start after_continuation
passed_to_start bytes p q l h = (grind (arith, nat_tests), grind (arith, nat_tests))

-- if the byte at the edge goes on with a character, the three before it do too
four_go_on : (bytes : List ℕ) (p : ℕ) → IsContinuation (get_or bytes (char_start bytes p) 0)
    → (char_start bytes p ≡ p + 3) × ((j : ℕ) → p ≤ j → j ≤ p + 3 → IsContinuation (get_or bytes j 0))
unfolding char_start after_continuation
four_go_on bytes p h = grind arith

-- ---- text is cut at an edge
-- a place where a text may be cut, among four from a place on
abbrev Cut : List ℕ → ℕ → Type 0
Cut text i = (place : ℕ) × (i ≤ place) × (place ≤ i + 3) × IsCharBoundary text place

cut_of_chars : (cs : List ℕ) (i : ℕ) → scalars cs ≡ true → i ≤ length (encodes cs) → Cut (encodes cs) i
cut_of_chars [] i s l = (0, omega arith, omega arith, (omega arith, λ m. absurd (omega arith)))
cut_of_chars (c ∷ cs) i s l =
    let n = length (encode c) in
    let text = encode c ++ encodes cs in
    let bounds = len_utf8_bounds c in
    let size = length-encode c in
    let all = length-append (encode c) (encodes cs) in
    let rest : scalars cs ≡ true = (and_parts (scalar c) (scalars cs) s).1 in
    ⊎_elim
    (λ (z : i < 1). (0, omega arith, omega arith, IsCharBoundary-start text (c ∷ cs, (s, refl))))
    (λ (z : 1 ≤ i). ⊎_elim
    (λ (x : i < n).
    (n, omega arith, omega arith, IsCharBoundary-at_seam text (encode c) (encodes cs) refl (cs, (rest, refl))))
    (λ (x : n ≤ i).
    let cut = cut_of_chars cs (i - n) rest (omega arith) in
    let there : IsCharBoundary (drop n text) cut.0 = rw (drop-append_seam (encode c) (encodes cs)) cut.3 in
    (n + cut.0, omega (arith, cut.1), omega (arith, cut.2), IsCharBoundary-from_rest text n cut.0 (omega arith) there))
    (cases_lt i n))
    (cases_lt i 1)

cut_near : (text : List ℕ) (i : ℕ) → IsUtf8 text → i ≤ length text → Cut text i
cut_near text i u l = subst (λ x. Cut x i) u.1.1 (cut_of_chars u.0 i u.1.0 (omega (arith, ap length u.1.1)))

-- a text that holds the bytes from a place on may be cut at an edge
char_start-boundary : (bytes text : List ℕ) (i p : ℕ) → i ≤ p → char_start bytes p - i ≤ length text → IsUtf8 text
    → ((m : ℕ) → m < length text → get_or text m 0 ≡ get_or bytes (i + m) 0)
    → IsCharBoundary text (char_start bytes p - i)
char_start-boundary bytes text i p l size u holds =
    let bounds = char_start_bounds bytes p in
    let n = char_start bytes p - i in (
      size,
      λ some from. ⊎_elim
          (λ (low : get_or text n 0 < 192).
          let there : i + n ≡ char_start bytes p = omega arith in
          let byte : get_or text n 0 ≡ get_or bytes (char_start bytes p) 0 =
          holds n some ∙ ap (λ q. get_or bytes q 0) there in
          let four = four_go_on bytes p (omega arith, omega arith) in
          let cut = cut_near text (n - 3) u (omega arith) in
          let short : cut.0 < length text = omega (arith, cut.2, four.0) in
          let on = four.1 (i + cut.0) (omega (arith, cut.1, four.0)) (omega (arith, cut.2, four.0)) in
          absurd (omega (arith, cut.3.1 short (omega (arith, on.0)), on.1)))
          (λ (high : 192 ≤ get_or text n 0). high)
          (cases_lt (get_or text n 0) 192),
    )

-- a text is text on either side of an edge
pub text_cut : (bytes : List ℕ) (i p k : ℕ) → i ≤ p → p + 3 ≤ k → k ≤ length bytes → IsUtf8 (slice_range bytes i k)
    → IsUtf8 (slice_range bytes i (char_start bytes p)) × IsUtf8 (slice_range bytes (char_start bytes p) k)
text_cut bytes i p k l m h u =
    let bounds = char_start_bounds bytes p in
    let n = char_start bytes p - i in
    let text = slice_range bytes i k in
    let size : length text ≡ k - i = length_of_range bytes i k h in
    let there : i + n ≡ char_start bytes p = omega arith in
    let boundary =
    char_start-boundary bytes text i p l (omega arith) u (λ q short. get_in_range bytes i k q (omega arith)) in (
      subst IsUtf8 (take-take n (k - i) (drop i bytes) (omega arith)) (IsUtf8-take text n u boundary),
      subst IsUtf8 (rest_of_range bytes i k n (omega arith) ∙ ap (λ c. slice_range bytes c k) there)
          (IsUtf8-drop text n u boundary),
    )

-- a string that is not UTF-8 up to an edge is not UTF-8 with more bytes either
pub lacks-on : (bytes : List ℕ) (i p e : ℕ) → i ≤ p → char_start bytes p ≤ e → e ≤ length bytes
    → LacksText (slice_range bytes i (char_start bytes p)) → LacksText (slice_range bytes i e)
lacks-on bytes i p e l m h lacks = λ u.
    let bounds = char_start_bounds bytes p in
    let a = slice_range bytes i (char_start bytes p) in
    let r = slice_range bytes (char_start bytes p) e in
    let is : slice_range bytes i e ≡ a ++ r = ranges-join bytes i (char_start bytes p) e (omega arith) m in
    let size : length a ≡ char_start bytes p - i =
    length_of_range bytes i (char_start bytes p) (omega arith) in
    ⊎_elim
    (λ (short : length (up_to_zero a) < length a). lacks (subst IsUtf8 (ap up_to_zero is ∙ stops a r short) u))
    (λ (all : length a ≤ length (up_to_zero a)).
    let string = up_to_zero (slice_range bytes i e) in
    let joined : string ≡ a ++ up_to_zero r = ap up_to_zero is ∙ goes_on a r all in
    let long : length string ≡ length a + length (up_to_zero r) = ap length joined ∙ length-append a (up_to_zero r) in
    let boundary = char_start-boundary bytes string i p l (omega arith) u (get_up bytes i e) in
    let front : take (char_start bytes p - i) string ≡ up_to_zero a =
    ap (λ n. take n string) (sym size) ∙ rw joined (take-append_seam a (up_to_zero r)) ∙ sym (whole a all) in
    lacks (subst IsUtf8 front (IsUtf8-take string (char_start bytes p - i) u boundary)))
    (cases_lt (length (up_to_zero a)) (length a))

-- no zero byte stands up to an edge, where none stands up to a place that isn't before the edge's
pub whole_to_start : (bytes : List ℕ) (i p k : ℕ) → i ≤ p → p ≤ k → k ≤ length bytes → char_start bytes p ≤ length bytes
    → up_to_zero (slice_range bytes i k) ≡ slice_range bytes i k
    → up_to_zero (slice_range bytes i (char_start bytes p)) ≡ slice_range bytes i (char_start bytes p)
whole_to_start bytes i p k l m h short is =
    grind (arith, length_of_range, no_zero_whole, get_in_range, whole_no_zero, passed_to_start)

-- ---- ranges one after another: if each is of a kind, so are they joined, and so is a run of blocks

-- what follows a text in a text is text
rest_is_text : (a b : List ℕ) → IsUtf8 a → IsUtf8 (a ++ b) → IsUtf8 b
rest_is_text a b u v =
    let front : IsUtf8 (take (length a) (a ++ b)) = rw (take-append_seam a b) u in
    let at = IsCharBoundary-from_take (a ++ b) (length a) v (omega (arith, length-append a b)) front in
    rw (drop-append_seam a b) at (IsUtf8-drop (a ++ b) (length a) v at)

-- a string that is not UTF-8 is not after zero-free UTF-8 either
pub lacks-after : (bytes : List ℕ) (i j k : ℕ) → i ≤ j → j ≤ k → IsZeroFree (slice_range bytes i j)
    → LacksText (slice_range bytes j k) → LacksText (slice_range bytes i k)
lacks-after bytes i j k l m zero_free lacks =
    let a = slice_range bytes i j in
    let b = slice_range bytes j k in
    let joined : up_to_zero (slice_range bytes i k) ≡ a ++ up_to_zero b =
    ap up_to_zero (ranges-join bytes i j k l m) ∙ goes_on a b (omega (arith, ap length zero_free.whole)) in
    λ u. lacks (rest_is_text a (up_to_zero b) zero_free.text (subst IsUtf8 joined u))

zero_free-join : (a b : List ℕ) → IsZeroFree a → IsZeroFree b → IsZeroFree (a ++ b)
zero_free-join a b p q = grind (arith, IsUtf8-append, goes_on)

kinds-join : (kind : Kind) (bytes : List ℕ) (i j k : ℕ) → i ≤ j → j ≤ k
    → IsOfKind kind (slice_range bytes i j)
    → IsOfKind kind (slice_range bytes j k) → IsOfKind kind (slice_range bytes i k)
kinds-join Text bytes i j k l m p q = texts-join bytes i j k l m p q
kinds-join ZeroFree bytes i j k l m p q = subst IsZeroFree (sym (ranges-join bytes i j k l m)) (zero_free-join _ _ p q)

-- bytes up to a run of blocks, and the run
pub of_up_to : (kind : Kind) (bytes : List ℕ) (i a b : ℕ) → i ≤ a * BLOCK → a ≤ b
    → IsOfKind kind (slice_range bytes i (block_start bytes a)) → IsRun kind bytes a b
    → IsOfKind kind (slice_range bytes i (block_start bytes b))
unfolding IsBlock
of_up_to kind bytes i a b l m p run =
    let e : a + (b - a) ≡ b = omega arith in
    subst (λ x. IsOfKind kind (slice_range bytes i (block_start bytes x))) e
    (up_to (b - a) (λ j from to. run j from (omega arith)))
  where
    up_to : (n : ℕ) → IsRun kind bytes a (a + n) → IsOfKind kind (slice_range bytes i (block_start bytes (a + n)))
    up_to zero run = let e : a ≡ a + 0 = omega arith in
        subst (λ x. IsOfKind kind (slice_range bytes i (block_start bytes x))) e p
    up_to (suc n) run =
        let k = a + n in
        let here = char_start_bounds bytes (k * BLOCK) in
        let next = char_start_bounds bytes ((k + 1) * BLOCK) in
        let e : k + 1 ≡ a + suc n = omega arith in
        let before = up_to n (λ j from to. run j from (omega arith)) in
        subst (λ x. IsOfKind kind (slice_range bytes i (block_start bytes x))) e
        (kinds-join kind bytes i (block_start bytes k) (block_start bytes (k + 1)) (omega arith) (omega arith) before
        (run k (omega arith) (omega arith)))
