-- The ASCII bytes at the start of a string: from the lanes of one load to the piece.
--
-- A mask of sixteen bytes has its lowest bit at the first byte that passes a test. A search of all bytes is one of the
-- next sixteen, and, if none of them passes, one of those after them. So the run that is found ends at the first byte
-- that is the delimiter or not ASCII; it is ASCII, and it is the whole piece unless a byte that isn't ASCII ends it.
use Rattle.goblin_base.proofs.Common.{common_steps, ◌≡◌, ℕ, ◌+◌, ◌-◌, ◌%◌, ◌^◌, ◌<◌, ◌≤◌, ◌==◌, eqb, leb, cond, Bool}
use Rattle.goblin_base.proofs.Common.{true, false, not, ◌||◌, bit_or, List, ◌++◌, map, take, drop, length, get_or, ap}
use Rattle.goblin_base.proofs.Common.{◌∙◌, arith, Ok, cond-true, cond-false, eq-eqb, or_parts, length-map, take_rest}
use Rattle.goblin_base.proofs.Common.{prefix_len-append, prefix_len-le-length, fails_before_first, position_or_len_is}
use Rattle.goblin_base.proofs.Common.{map-map, mask_l-mod, first_set_mask_l, chunk-drop, length-chunk}
use Rattle.goblin_base.proofs.Common.{is_utf8-from_IsUtf8, position_or_len, prefix_len, IsUtf8, ends_run, lowest_set}
use Rattle.goblin_base.proofs.Common.{piece, plain, subst, chunk, top}
use Rattle.std.proofs.lemmas.Bool.{ne_eqb}
use lib.Lanes.{mask_l}
use Rattle.goblin_base.proofs.StrtabLemmas.{first_or_length}
use Rattle.goblin_base.proofs.MarksLemmas.{low_is_text}

-- the lane of one byte
abbrev pub lane : ℕ → ℕ → ℕ
lane d b = bit_or (cond (eqb b d) 255 0) (cond (leb 128 b) 255 0)

-- its top bit is set if either test holds
either : (x y : Bool) → top 7 (bit_or (cond x 255 0) (cond y 255 0)) ≡ (x || y)
either x y = grind arith

-- the mask of the lanes' top bits is that of the bytes that end the run
mask_is : (d : ℕ) (v z : List ℕ)
    → length v ≡ 16 → z ≡ map (lane d) v → mask_l (map (top 7) z) % 2 ^ 64 ≡ mask_l (map (ends_run d) v)
mask_is d v z long lanes =
    let top_of_lane : (λ b. top 7 (lane d b)) ≡ ends_run d = λ i b. either (eqb b d) (leb 128 b) i in
    let tops : map (top 7) z ≡ map (ends_run d) v =
    ap (map (top 7)) lanes
    ∙ map-map (top 7) (lane d) v
    ∙ ap (λ f. map f v) top_of_lane in
    let few : length (map (ends_run d) v) ≤ 64 = omega (arith, length-map v (ends_run d), long) in
    ap (λ l. mask_l l % 2 ^ 64) tops
    ∙ mask_l-mod (map (ends_run d) v) 64 few

-- so is the lowest bit of the vectors' mask
pub run_is : (d : ℕ) (v z : List ℕ) (r : ℕ)
    → length v ≡ 16 → z ≡ map (lane d) v → r ≡ lowest_set (mask_l (map (top 7) z) % 2 ^ 64) 16
    → r ≡ position_or_len (ends_run d) v
run_is d v z r long lanes found =
    let mask : mask_l (map (top 7) z) % 2 ^ 64 ≡ mask_l (map (ends_run d) v) = mask_is d v z long lanes in
    let first : lowest_set (mask_l (map (ends_run d) v)) 16 ≡ position_or_len (ends_run d) v =
    first_set_mask_l (ends_run d) v 16 long (omega arith) in
    found
    ∙ ap (λ m. lowest_set m 16) mask
    ∙ first

-- what stands before the first byte of a kind, from an offset on: it ends in the next n bytes, or goes on after them
pub stops_here : (n : ℕ) (test : ℕ → Bool) (bytes : List ℕ) (at : ℕ)
    → at + n ≤ length bytes → position_or_len test (take n (drop at bytes)) < n
    → position_or_len test (drop at bytes) ≡ position_or_len test (take n (drop at bytes))
stops_here n test bytes at room short =
    let p : ℕ → Bool = λ b. not (test b) in
    let split : drop at bytes ≡ chunk at n bytes ++ drop (at + n) bytes = chunk-drop at n bytes in
    let long : length (chunk at n bytes) ≡ n = length-chunk at n bytes room in
    let not_all : ¬ (prefix_len p (chunk at n bytes) ≡ length (chunk at n bytes)) =
    λ e. absurd (omega (arith, e, long, short)) in
    ap (prefix_len p) split
    ∙ prefix_len-append p (chunk at n bytes) (drop (at + n) bytes)
    ∙ cond-false _ _ _ (ne_eqb _ _ not_all)

pub passes_on : (n : ℕ) (test : ℕ → Bool) (bytes : List ℕ) (at : ℕ)
    → at + n ≤ length bytes → n ≤ position_or_len test (take n (drop at bytes))
    → position_or_len test (drop at bytes) ≡ n + position_or_len test (drop (at + n) bytes)
passes_on n test bytes at room all =
    let p : ℕ → Bool = λ b. not (test b) in
    let split : drop at bytes ≡ chunk at n bytes ++ drop (at + n) bytes = chunk-drop at n bytes in
    let long : length (chunk at n bytes) ≡ n = length-chunk at n bytes room in
    let whole : prefix_len p (chunk at n bytes) ≡ length (chunk at n bytes) =
    omega (arith, long, all, prefix_len-le-length p (chunk at n bytes)) in
    ap (prefix_len p) split
    ∙ prefix_len-append p (chunk at n bytes) (drop (at + n) bytes)
    ∙ cond-true _ _ _ (eq-eqb _ _ whole)
    ∙ ap (λ m. m + prefix_len p (drop (at + n) bytes)) long

-- so it is with a run
pub ends_here : (d : ℕ) (bytes : List ℕ) (at : ℕ)
    → at + 16 ≤ length bytes → position_or_len (ends_run d) (take 16 (drop at bytes)) < 16
    → position_or_len (ends_run d) (drop at bytes) ≡ position_or_len (ends_run d) (take 16 (drop at bytes))
ends_here d = stops_here 16 (ends_run d)

pub goes_on : (d : ℕ) (bytes : List ℕ) (at : ℕ)
    → at + 16 ≤ length bytes → 16 ≤ position_or_len (ends_run d) (take 16 (drop at bytes))
    → position_or_len (ends_run d) (drop at bytes) ≡ 16 + position_or_len (ends_run d) (drop (at + 16) bytes)
goes_on d = passes_on 16 (ends_run d)

pub ruleset runs = (ends_here, goes_on, first_or_length, take_rest)

-- and with the bytes before the first delimiter
pub before_here : (d : ℕ) (bytes : List ℕ) (at : ℕ)
    → at + 16 ≤ length bytes → position_or_len (λ b. b == d) (take 16 (drop at bytes)) < 16
    → position_or_len (λ b. b == d) (drop at bytes) ≡ position_or_len (λ b. b == d) (take 16 (drop at bytes))
before_here d = stops_here 16 (λ b. b == d)

pub ruleset stops = (before_here, first_or_length, take_rest)

-- the lowest bit of a mask of the delimiters is at the first of them
pub delim_is : (n d : ℕ) (v : List ℕ) (mask r : ℕ)
    → length v ≡ n → n ≤ 64 → mask ≡ mask_l (map (λ b. eqb b d) v) → r ≡ lowest_set mask n
    → r ≡ position_or_len (λ b. b == d) v
delim_is n d v mask r long few marked found = grind (arith, first_set_mask_l)

-- the bytes of a run, and the one that ends it
module _ (d n : ℕ) (bytes : List ℕ) (is : n ≡ position_or_len (ends_run d) bytes) where
  in_run : (k : ℕ) → k < n → ends_run d (get_or bytes k 0) ≡ false
  in_run k l = fails_before_first (ends_run d) bytes k 0 (omega (arith, is))

  -- none of them is the delimiter, and each is ASCII
  not_delim : (k : ℕ) → k < n → eqb (get_or bytes k 0) d ≡ false
  not_delim k l = (or_parts (eqb (get_or bytes k 0) d) (leb 128 (get_or bytes k 0)) (in_run k l)).0

  below_128 : (k : ℕ) → k < n → get_or bytes k 0 < 128
  below_128 k l = grind (arith, common_steps, in_run)

  pub run_is_text : IsUtf8 (take n bytes)
  run_is_text =
      let all : n - 0 ≡ n = omega arith in
      subst (λ k. IsUtf8 (take k bytes)) all (low_is_text bytes 0 n (λ k from below. below_128 k below))

  -- if the delimiter ends it, or the end of the bytes, it is the piece
  pub run_is_plain : (n < length bytes → eqb (get_or bytes n 0) d ≡ true) → plain bytes d 0 ≡ Ok (take n bytes)
  unfolding piece
  run_is_plain ended =
      grind (arith, prefix_len-le-length, position_or_len_is, not_delim, is_utf8-from_IsUtf8, run_is_text)
