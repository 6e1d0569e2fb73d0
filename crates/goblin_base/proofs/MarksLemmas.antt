-- Marks of sixteen bytes: what they say of the bytes from a place on.
--
-- Shifting a mask down leaves the bits of the bytes from a place on (`mask_down`), so the lowest of them is at the next
-- byte that passes the test (`next_is`). In the mask of the delimiter that is where the piece ends (`next_delim`); in
-- the mask of the bytes from 128 on it says whether the piece is ASCII up to there (`ascii_more`).
use Rattle.goblin_base.proofs.Common.{◌≡◌, ℕ, zero, suc, ◌+◌, ◌-◌, ◌/◌, ◌^◌, ◌<◌, ◌≤◌, ◌↔◌, eqb, leb, Bool, true, false}
use Rattle.goblin_base.proofs.Common.{not, ◌&&◌, List, [], ◌∷◌, map, take, drop, length, get_or, shr-shr, sym, ap, ◌∙◌}
use Rattle.goblin_base.proofs.Common.{⊎_elim, arith, cases_lt, both_ways, and_parts, and_from, le-leb, leb-true}
use Rattle.goblin_base.proofs.Common.{leb-false, drop-drop, drop-map, drop-take, get_or-take, get_or-drop, get_or_past}
use Rattle.goblin_base.proofs.Common.{length-take, first_set_mask_l, length-chunk, run_in_chunk_le, run_in_chunk_fails}
use Rattle.goblin_base.proofs.Common.{run_in_chunk_stops, IsUtf8-from_ascii, slice_range, prefix_len, IsUtf8, mask_l}
use Rattle.goblin_base.proofs.Common.{lowest_set, AreAscii, AreMarks, marks_before, piece_end, chunk}
use Rattle.goblin_base.specs.declared.marks.Marks.{Marks}
use Rattle.goblin_base.proofs.PiecesLemmas.{at_end, end_from, end_same}

half_of : (m : Bool) (ms : List Bool) → mask_l (m ∷ ms) / 2 ^ 1 ≡ mask_l ms
half_of m ms = grind arith

-- a mask shifted down is that of the lanes above
pub mask_down : (s : ℕ) (ms : List Bool) → mask_l ms / 2 ^ s ≡ mask_l (drop s ms)
mask_down zero ms = omega arith
mask_down (suc s) [] = omega arith
mask_down (suc s) (m ∷ ms) =
    let e : suc s ≡ 1 + s = omega arith in
    ap (λ k. mask_l (m ∷ ms) / 2 ^ k) e
    ∙ sym (shr-shr (mask_l (m ∷ ms)) 1 s)
    ∙ ap (λ k. k / 2 ^ s) (half_of m ms)
    ∙ mask_down s ms

-- so many bytes from a place on fail a test, up to another place, before which the next one passes it
pub record IsNext (test : ℕ → Bool) (bytes : List ℕ) (at until n : ℕ) : Type 0 where
  pub within : n ≤ until - at
  pub fails : (k : ℕ) → at ≤ k → k < at + n → test (get_or bytes k 0) ≡ false
  pub stops : n < until - at → test (get_or bytes (at + n) 0) ≡ true

module _ (test : ℕ → Bool) (bytes : List ℕ) (until at mask n : ℕ) (room : 16 ≤ until) (within : until ≤ length bytes)
    (before : at ≤ until) (near : until ≤ at + 16) where
  lanes_from : drop (16 - (until - at)) (map test (take 16 (drop (until - 16) bytes)))
      ≡ map test (chunk at (until - at) bytes)
  lanes_from =
      let s = 16 - (until - at) in
      let whole : 16 ≡ s + (until - at) = omega arith in
      let start : until - 16 + s ≡ at = omega arith in
      drop-map test s (take 16 (drop (until - 16) bytes))
      ∙ ap (λ k. map test (drop s (take k (drop (until - 16) bytes)))) whole
      ∙ ap (map test)
      (drop-take s (until - at) (drop (until - 16) bytes)
      ∙ ap (take (until - at)) (drop-drop s (until - 16) bytes ∙ ap (λ k. drop k bytes) start))

  pub next_is : mask ≡ marks_before test bytes until
      → n ≡ lowest_set (mask / 2 ^ (16 - (until - at))) (until - at) → IsNext test bytes at until n
  next_is marked found =
      let left = until - at in
      let s = 16 - left in
      let roomy : at + left ≤ length bytes = omega arith in
      let counted : n ≡ prefix_len (λ b. not (test b)) (chunk at left bytes) =
      found
      ∙ ap (λ m. lowest_set (m / 2 ^ s) left) marked
      ∙ ap (λ m. lowest_set m left) (mask_down s (map test (take 16 (drop (until - 16) bytes))) ∙ ap mask_l lanes_from)
      ∙ first_set_mask_l test (chunk at left bytes) left (length-chunk at left bytes roomy) (omega arith) in
      record {
        within = run_in_chunk_le test bytes at left n 0 roomy counted;
        fails = run_in_chunk_fails test bytes at left n 0 roomy counted;
        stops = run_in_chunk_stops test bytes at left n 0 roomy counted;
      }

-- what marks say of the bytes from a place on, where the lowest bits that are left were had of both
module _ (bytes : List ℕ) (d : ℕ) (m : Marks) (at n h : ℕ) (marks : AreMarks bytes d m) (before : at ≤ m.until)
    (near : m.until ≤ at + 16)
    (delim : n ≡ lowest_set (m.delims / 2 ^ (16 - (m.until - at))) (m.until - at)) where
  pub next_delim : IsNext (λ b. eqb b d) bytes at m.until n
  next_delim = next_is (λ b. eqb b d) bytes m.until at m.delims n marks.room marks.within before near marks.delims delim

  pub no_delim : (from : ℕ)
      → ((k : ℕ) → from ≤ k → k < at → eqb (get_or bytes k 0) d ≡ false) → (k : ℕ) → from ≤ k → k < at + n
      → eqb (get_or bytes k 0) d ≡ false
  no_delim from none k l r = grind (arith, next_delim)

  -- the bytes up to there are ASCII if those before the place are, and no byte is marked before the delimiter
  pub ascii_more : (from : ℕ) (so_far : Bool)
      → from ≤ at
      → h ≡ lowest_set (m.highs / 2 ^ (16 - (m.until - at))) (m.until - at)
      → (so_far ≡ true) ↔ AreAscii bytes from at
      → ((so_far && leb n h) ≡ true) ↔ AreAscii bytes from (at + n)
  ascii_more from so_far ordered high low =
      let next = next_is (leb 128) bytes m.until at m.highs h marks.room marks.within before near marks.highs high in
      let within = next_delim.within in (
        λ both k l r.
            let parts = and_parts _ _ both in
            ⊎_elim
            (λ (x : k < at). low.0 parts.0 k l x)
            (λ (x : at ≤ k). leb-false 128 (get_or bytes k 0) (next.fails k x (omega (arith, leb-true n h parts.1))))
            (cases_lt k at),
        λ all.
            and_from _ _ (low.1 (λ k l r. all k l (omega arith)))
            (⊎_elim
            (λ (x : h < n).
            let there = leb-true 128 (get_or bytes (at + h) 0) (next.stops (omega arith)) in
            absurd (omega (arith, there, all (at + h) (omega arith) (omega arith))))
            (λ (x : n ≤ h). le-leb n h x)
            (cases_lt h n)),
      )

module _ (bytes : List ℕ) (from to : ℕ) where
  -- bytes below 128 are text
  pub low_is_text : AreAscii bytes from to → IsUtf8 (slice_range bytes from to)
  low_is_text low = grind (arith, IsUtf8-from_ascii, get_or-take, get_or-drop, length-take, get_or_past)

  -- a piece whose first bytes hold no delimiter ends where the rest of it does
  pub end_later : (d : ℕ)
      → from ≤ to → to ≤ length bytes → ((k : ℕ) → from ≤ k → k < to → eqb (get_or bytes k 0) d ≡ false)
      → piece_end bytes d to ≡ piece_end bytes d from
  end_later d l m none = end_same bytes d from to (omega arith) l (⊎_elim
      (λ (x : piece_end bytes d from < to).
      absurd (both_ways _ (none (piece_end bytes d from) (omega (arith, end_from bytes d from)) x)
      (at_end bytes d from (omega arith) (omega arith))))
      (λ (x : to ≤ piece_end bytes d from). x)
      (cases_lt (piece_end bytes d from) to))
