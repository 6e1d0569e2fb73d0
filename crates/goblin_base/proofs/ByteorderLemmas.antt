-- The definitions of `byteorder` say the same as those here.
use Rattle.goblin_base.proofs.Common.{common_steps, ◌≡◌, ◌<◌, ◌≤◌, ◌+◌, ◌/◌, ◌%◌, ◌^◌, ◌-◌, ℕ, zero, suc, List, [], ◌∷◌}
use Rattle.goblin_base.proofs.Common.{◌++◌, length, reverse, take, drop, slice_index, set, refl, sym, ap, ◌∙◌, arith}
use Rattle.goblin_base.proofs.Common.{pow-suc, div-div-eq-div-mul, div-one, length-reverse, length-drop, length-take-le}
use Rattle.goblin_base.proofs.Common.{drop_more, set_split}
use Rattle.std.proofs.lemmas.List.{append_assoc}
use Rattle.std.specs.Int.{byte_at, bytes_high_first, bytes_low_first}
use Rattle.byteorder.specs.Endian.{big_from, little_from}
use Rattle.byteorder.specs.Numbers.{big_from-cons, little_from-cons}
use Rattle.goblin_base.specs.declared.container.Endian.{Endian}
use Rattle.goblin_base.specs.declared.container.Endian.TheVariants.{Little, Big}
use Rattle.goblin_base.specs.Number.{weighted_sum, number, low_bytes, spelled, number_at}
use Rattle.goblin_base.specs.NumberLaws.{weighted_sum-cons, weighted_sum-last, number-one, spelled-one, length-spelled}
use Rattle.goblin_base.specs.NumberLaws.{number-spelled, spelled-number}
use Rattle.goblin_base.specs.FieldLaws.{number_at-with_number}
use Rattle.goblin_base.specs.Place.{with_number}
use Rattle.goblin_base.specs.SignedLaws.{signed_number-spelled, spelled-signed_number, signed_number_at-is}
use Rattle.goblin_base.specs.SignedLaws.{signed_number_at-with_number}
use borrow.Rule.Slice.PartMut.{put_mid}
use mathlib.Core.List.{reverse-cons}

little_from-is : (bytes : List ℕ) → little_from 0 (length bytes) bytes ≡ weighted_sum 0 bytes
little_from-is [] = refl
little_from-is (b ∷ bytes) =
    let moved = little_from-cons 0 (length bytes) b bytes in
    rw (weighted_sum-cons b bytes, moved, little_from-is bytes) refl

big_from-is : (bytes : List ℕ) → big_from 0 (length bytes) bytes ≡ weighted_sum 0 (reverse bytes)
big_from-is [] = refl
big_from-is (b ∷ bytes) =
    let moved = big_from-cons 0 (length bytes) b bytes in
    let last = weighted_sum-last (reverse bytes) b in
    rw (moved, big_from-is bytes, reverse-cons b bytes, last, length-reverse bytes) (omega arith)

-- the byte of a number at a rank
byte_at-pow : (k x : ℕ) → byte_at k x ≡ x / 256 ^ k % 256
byte_at-pow k x = grind arith

next_power : (k x : ℕ) → x / 256 ^ k / 256 ≡ x / 256 ^ suc k
next_power k x = div-div-eq-div-mul x (256 ^ k) 256 ∙ ap (λ (p : ℕ). x / p) (sym (pow-suc 256 k))

-- the bytes that `LittleEndian` writes
bytes_low_first-is : (k i x : ℕ) → bytes_low_first i k x ≡ low_bytes k (x / 256 ^ i)
bytes_low_first-is zero i x = refl
bytes_low_first-is (suc k) i x = rw (byte_at-pow i x, next_power i x, bytes_low_first-is k (suc i) x) refl

-- the digits of a number, and the next one above them
low_bytes-last : (k x : ℕ) → low_bytes (suc k) x ≡ low_bytes k x ++ x / 256 ^ k % 256 ∷ []
low_bytes-last zero x = rw (div-one x) refl
low_bytes-last (suc k) x = grind (arith, div-div-eq-div-mul, low_bytes-last k (x / 256))

-- the bytes that `BigEndian` writes
bytes_high_first-is : (k x : ℕ) → bytes_high_first k x ≡ reverse (low_bytes k x)
bytes_high_first-is zero x = refl
bytes_high_first-is (suc k) x = grind (arith, common_steps, low_bytes-last, bytes_high_first-is k x)

-- the slice of the n bytes at an offset
part : (bytes : List ℕ) (place n : ℕ) → take (place + n - place) (drop place bytes) ≡ take n (drop place bytes)
part bytes place n = let e : place + n - place ≡ n = omega arith in rw e refl

pub length-part : (bytes : List ℕ) (place n : ℕ) → place + n ≤ length bytes → length (take n (drop place bytes)) ≡ n
length-part bytes place n h = length-take-le n (drop place bytes) (omega (arith, length-drop place bytes))

-- what `LittleEndian` reads at an offset
pub read_little : (order : Endian) (bytes : List ℕ) (place n : ℕ)
    → order ≡ Little → place + n ≤ length bytes
    → little_from 0 n (take (place + n - place) (drop place bytes)) ≡ number_at order bytes place n
unfolding number
read_little order bytes place n is h = grind (arith, common_steps, length-part, little_from-is)

-- what `BigEndian` reads at an offset
pub read_big : (order : Endian) (bytes : List ℕ) (place n : ℕ)
    → order ≡ Big → place + n ≤ length bytes
    → big_from 0 n (take (place + n - place) (drop place bytes)) ≡ number_at order bytes place n
unfolding number
read_big order bytes place n is h = grind (arith, common_steps, length-part, big_from-is)

-- the bytes after n bytes at an offset were written
written : (bytes text new : List ℕ) (place n : ℕ)
    → place + n ≤ length bytes → new ≡ text ++ drop n (take (place + n - place) (drop place bytes))
    → put_mid place (place + n - place) bytes new ≡ take place bytes ++ text ++ drop (place + n) bytes
written bytes text new place n h e = grind (arith, common_steps)

-- what `LittleEndian` writes at an offset
pub write_little : (order : Endian) (bytes new : List ℕ) (place n x : ℕ)
    → order ≡ Little → place + n ≤ length bytes
    → new ≡ bytes_low_first 0 n x ++ drop n (take (place + n - place) (drop place bytes))
    → put_mid place (place + n - place) bytes new ≡ with_number order bytes place n x
unfolding spelled with_number
write_little order bytes new place n x is h e = grind (arith, bytes_low_first-is, written)

-- what `BigEndian` writes at an offset
pub write_big : (order : Endian) (bytes new : List ℕ) (place n x : ℕ)
    → order ≡ Big → place + n ≤ length bytes
    → new ≡ bytes_high_first n x ++ drop n (take (place + n - place) (drop place bytes))
    → put_mid place (place + n - place) bytes new ≡ with_number order bytes place n x
unfolding spelled with_number
write_big order bytes new place n x is h e = grind (arith, written, bytes_high_first-is)

-- the byte at an offset
pub read_one : (order : Endian) (bytes : List ℕ) (place : ℕ)
    → place + 1 ≤ length bytes → slice_index bytes place ≡ number_at order bytes place 1
read_one order bytes place h =
    sym (ap (λ (part : List ℕ). number order (take 1 part)) (drop_more bytes place 0 (omega arith))
    ∙ number-one order (slice_index bytes place))

-- writing the byte at an offset
pub write_one : (order : Endian) (bytes : List ℕ) (place x : ℕ)
    → place + 1 ≤ length bytes → x < 256 → set bytes place x ≡ with_number order bytes place 1 x
unfolding with_number
write_one order bytes place x h fits =
    let next : place + 1 ≡ suc place = omega arith in
    set_split bytes place x (omega arith)
    ∙ rw (spelled-one order x fits, next) (sym (append_assoc (take place bytes) (x ∷ []) (drop (suc place) bytes)))

-- for the functions that read and write numbers, and for their laws
pub ruleset numbers = (
  read_one,
  read_little,
  read_big,
  write_one,
  write_little,
  write_big,
  length-spelled,
  number-spelled,
  spelled-number,
  number_at-with_number,
  signed_number-spelled,
  spelled-signed_number,
  signed_number_at-is,
  signed_number_at-with_number,
)
