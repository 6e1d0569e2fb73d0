-- Laws of signed numbers: each that fits a width is written as one list of bytes, in two's complement.
use Rattle.std.proofs.Common.{inl, inr, sym, ap, ◌∙◌, arith, ◌%◌, ◌≡◌, ◌<◌, ◌≤◌, ◌+◌, ◌*◌, ◌-◌, ◌^◌, ℕ, List, length}
use Rattle.std.proofs.Common.{take, drop}
use Rattle.goblin_base.specs.Common.{one-le-pow, mod-lt, mod-eq_of_lt, cases_lt, nat_tests, Endian, length-take-le}
use Rattle.goblin_base.specs.Common.{length-drop}
use Rattle.std.specs.Prelude.{ℤ, pos, negsuc}
use Rattle.std.proofs.lemmas.Int.{ints}
use Rattle.goblin_base.specs.Number.{IsBytes, number, number_at, spelled}
use Rattle.goblin_base.specs.FieldLaws.{number_at-with_number, number_at-lt}
use Rattle.goblin_base.specs.NumberLaws.{length-spelled, number-spelled, spelled-number, number-lt}
use Rattle.goblin_base.specs.Signed.{signed_of, signed_number_at, complement, FitsSigned, ReadsSigned, SpellsSigned}
use Rattle.goblin_base.specs.Signed.{IsSignedSlice, ReadsSignedThere}

-- a signed number that fits, to its bytes' number and back
pub signed_of-complement : (width : ℕ) (z : ℤ) → FitsSigned width z → signed_of width (complement width z) ≡ z
signed_of-complement width (pos x) fits =
    let e : x % 256 ^ width ≡ x = mod-eq_of_lt (omega arith) in
    rw e (grind (arith, nat_tests))
signed_of-complement width (negsuc x) fits =
    let e : x % 256 ^ width ≡ x = mod-eq_of_lt (omega arith) in
    rw e (grind (arith, nat_tests, ints))

-- the number of a signed number fits the width
pub complement-lt : (width : ℕ) (z : ℤ) → complement width z < 256 ^ width
complement-lt width (pos x) = mod-lt x (omega (arith, one-le-pow width 256 (omega arith)))
complement-lt width (negsuc x) = omega (arith, one-le-pow width 256 (omega arith))

-- so cutting it to the width changes nothing
pub complement-mod : (width : ℕ) (z : ℤ) → complement width z % 256 ^ width ≡ complement width z
complement-mod width z = mod-eq_of_lt (complement-lt width z)

-- a number, to its signed number and back; and this fits
pub signed_of-fits : (width x : ℕ)
    → x < 256 ^ width → (complement width (signed_of width x) ≡ x) × FitsSigned width (signed_of width x)
signed_of-fits width x h =
    elim (cases_lt (2 * x) (256 ^ width)) [
      | inl p ↦ let low : signed_of width x ≡ pos x = grind (arith, nat_tests) in
          (ap (complement width) low ∙ mod-eq_of_lt h, rw low p)
      | inr p ↦
          let high : signed_of width x ≡ negsuc (256 ^ width - 1 - x) = grind (arith, nat_tests, ints) in
          let rest : (256 ^ width - 1 - x) % 256 ^ width ≡ 256 ^ width - 1 - x = mod-eq_of_lt (omega arith) in
          (ap (complement width) high ∙ rw rest (omega arith), rw high (omega arith))
    ]

-- a signed number that fits is read back
pub signed_number-spelled : ReadsSigned
signed_number-spelled order width z fits =
    let x = complement width z in
    ap (λ (w : ℕ). signed_of w (number order (spelled order width x))) (length-spelled order width x)
    ∙ ap (signed_of width) (number-spelled order width x (complement-lt width z))
    ∙ signed_of-complement width z fits

-- the signed number of some bytes is written as the same bytes
pub spelled-signed_number : SpellsSigned
spelled-signed_number order bytes are =
    ap (spelled order (length bytes))
    (signed_of-fits (length bytes) (number order bytes) (number-lt order bytes are)).0
    ∙ spelled-number order bytes are

-- the signed number at an offset has the number at that offset
pub complement-signed_number_at : (order : Endian) (bytes : List ℕ) (place width : ℕ)
    → IsBytes bytes → place + width ≤ length bytes
    → complement width (signed_number_at order bytes place width) ≡ number_at order bytes place width
complement-signed_number_at order bytes place width are room =
    (signed_of-fits width (number_at order bytes place width) (number_at-lt order bytes place width are room)).0

-- the signed number at an offset is that of the slice there
pub signed_number_at-is : IsSignedSlice
signed_number_at-is order bytes place width room =
    ap (λ (w : ℕ). signed_of w (number order (take width (drop place bytes))))
    (sym (length-take-le width (drop place bytes) (omega (arith, length-drop place bytes))))

-- a signed number that was written and fits its width is read back
pub signed_number_at-with_number : ReadsSignedThere
signed_number_at-with_number order bytes place width z room fits =
    let x = complement width z in
    ap (signed_of width) (number_at-with_number order bytes place width x room ∙ complement-mod width z)
    ∙ signed_of-complement width z fits
