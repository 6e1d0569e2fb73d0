-- Laws of numbers in bytes: each number of one width is written as one list of bytes.
use Rattle.std.proofs.Common.{inl, inr, refl, sym, ap, ◌∙◌, arith, ◌%◌, suc, ◌≡◌, ◌<◌, ◌≤◌, ◌+◌, ◌-◌, ◌*◌, ◌/◌, ◌^◌, ℕ}
use Rattle.std.proofs.Common.{zero, List, [], ◌∷◌, ◌++◌, length, reverse, add-one}
use Rattle.goblin_base.specs.Common.{mod-lt, pow-suc, one-le-pow, cases_lt, Endian, length-reverse, reverse-reverse}
use Rattle.goblin_base.specs.Common.{get_or-reverse, get_or_past}
use lib.Arith.{mod-mul}
use Rattle.goblin_base.specs.declared.container.Endian.TheVariants.{Little, Big}
use Rattle.goblin_base.specs.Number.{IsBytes, weighted_sum, number, low_bytes, spelled}

-- a rank higher is 256 times as much
pub weighted_sum-next : (rank : ℕ) (bytes : List ℕ) → weighted_sum (rank + 1) bytes ≡ 256 * weighted_sum rank bytes
weighted_sum-next rank [] = refl
weighted_sum-next rank (byte ∷ bytes) =
    let power : 256 ^ (rank + 1) ≡ 256 ^ rank * 256 = ap (λ (k : ℕ). 256 ^ k) (add-one rank) ∙ pow-suc 256 rank in
    let rest = weighted_sum-next (rank + 1) bytes in
    rw (power, rest) (omega arith)

-- the sum without the first byte, which counts as itself
pub weighted_sum-cons : (byte : ℕ) (bytes : List ℕ) → weighted_sum 0 (byte ∷ bytes) ≡ byte + 256 * weighted_sum 0 bytes
weighted_sum-cons byte bytes = let rest = weighted_sum-next 0 bytes in omega (arith, rest)

-- the sum with one byte more at the end
pub weighted_sum-last : (bytes : List ℕ) (byte : ℕ)
    → weighted_sum 0 (bytes ++ byte ∷ []) ≡ weighted_sum 0 bytes + byte * 256 ^ length bytes
weighted_sum-last [] byte = omega arith
weighted_sum-last (first ∷ bytes) byte =
    let rest = weighted_sum-last bytes byte in
    let power = pow-suc 256 (length bytes) in
    rw (weighted_sum-cons first (bytes ++ byte ∷ []), weighted_sum-cons first bytes, rest, power) (omega arith)

-- the digits are as many as the width
pub length-low_bytes : (n x : ℕ) → length (low_bytes n x) ≡ n
length-low_bytes zero x = refl
length-low_bytes (suc n) x = let e = length-low_bytes n (x / 256) in omega (arith, e)

-- the number of n bytes is below 256 ^ n
pub weighted_sum-lt : (bytes : List ℕ) → IsBytes bytes → weighted_sum 0 bytes < 256 ^ length bytes
weighted_sum-lt [] h = omega arith
weighted_sum-lt (b ∷ bytes) h =
    let byte : b < 256 = h 0 in
    let rest = weighted_sum-lt bytes (λ i. h (suc i)) in
    rw (weighted_sum-cons b bytes, pow-suc 256 (length bytes)) (omega arith)

-- a number that fits is the sum of its digits
pub weighted_sum-low_bytes : (n x : ℕ) → x < 256 ^ n → weighted_sum 0 (low_bytes n x) ≡ x
weighted_sum-low_bytes zero x h = omega arith
weighted_sum-low_bytes (suc n) x h =
    let small : x / 256 < 256 ^ n = omega arith in
    let rest = weighted_sum-low_bytes n (x / 256) small in
    rw weighted_sum-cons (omega (arith, rest))

-- bytes are the digits of their number
pub low_bytes-weighted_sum : (bytes : List ℕ) → IsBytes bytes → low_bytes (length bytes) (weighted_sum 0 bytes) ≡ bytes
low_bytes-weighted_sum [] h = refl
low_bytes-weighted_sum (b ∷ bytes) h =
    let byte : b < 256 = h 0 in
    let low : (b + 256 * weighted_sum 0 bytes) % 256 ≡ b = omega arith in
    let high : (b + 256 * weighted_sum 0 bytes) / 256 ≡ weighted_sum 0 bytes = omega arith in
    let rest = low_bytes-weighted_sum bytes (λ i. h (suc i)) in
    rw (weighted_sum-cons b bytes, low, high, rest) refl

-- reversed bytes are bytes
IsBytes-reverse : (bytes : List ℕ) → IsBytes bytes → IsBytes (reverse bytes)
IsBytes-reverse bytes h i =
    elim (cases_lt i (length bytes)) [
      | inl p ↦ rw (get_or-reverse bytes i 0) (h (length bytes - 1 - i))
      | inr p ↦ let q : length (reverse bytes) ≤ i = omega (arith, length-reverse bytes) in
          rw (get_or_past (reverse bytes) i 0) (omega arith)
    ]

-- the digits of a number are bytes
IsBytes-low_bytes : (n x : ℕ) → IsBytes (low_bytes n x)
IsBytes-low_bytes zero x i = omega arith
IsBytes-low_bytes (suc n) x zero = omega arith
IsBytes-low_bytes (suc n) x (suc i) = IsBytes-low_bytes n (x / 256) i

-- the bytes of a number are bytes
pub IsBytes-spelled : (order : Endian) (n x : ℕ) → IsBytes (spelled order n x)
unfolding spelled
IsBytes-spelled order n x = grind (arith, IsBytes-low_bytes, IsBytes-reverse)

-- bytes before bytes are bytes
pub IsBytes-append : (front back : List ℕ) → IsBytes front → IsBytes back → IsBytes (front ++ back)
IsBytes-append [] back f b i = b i
IsBytes-append (x ∷ front) back f b zero = f 0
IsBytes-append (x ∷ front) back f b (suc i) = IsBytes-append front back (λ j. f (suc j)) b i

-- the bytes of a number are as many as the width
pub length-spelled : (order : Endian) (n x : ℕ) → length (spelled order n x) ≡ n
unfolding spelled
length-spelled order n x = grind (arith, length-low_bytes, length-reverse {A = ℕ})

-- the number of n bytes is below 256 ^ n
pub number-lt : (order : Endian) (bytes : List ℕ) → IsBytes bytes → number order bytes < 256 ^ length bytes
unfolding number
number-lt Little bytes h = weighted_sum-lt bytes h
number-lt Big bytes h = rw (← length-reverse bytes) (weighted_sum-lt (reverse bytes) (IsBytes-reverse bytes h))

-- a number that fits is read back
pub number-spelled : (order : Endian) (n x : ℕ) → x < 256 ^ n → number order (spelled order n x) ≡ x
unfolding number spelled
number-spelled Little n x h = weighted_sum-low_bytes n x h
number-spelled Big n x h = ap (weighted_sum 0) (reverse-reverse (low_bytes n x)) ∙ weighted_sum-low_bytes n x h

-- the number of some bytes is written as the same bytes
pub spelled-number : (order : Endian) (bytes : List ℕ)
    → IsBytes bytes → spelled order (length bytes) (number order bytes) ≡ bytes
unfolding number spelled
spelled-number Little bytes h = low_bytes-weighted_sum bytes h
spelled-number Big bytes h =
    let e = low_bytes-weighted_sum (reverse bytes) (IsBytes-reverse bytes h) in
    rw length-reverse at (ap reverse e) ∙ reverse-reverse bytes

-- the digits of a number depend on its low part only
low_bytes-mod : (n x : ℕ) → low_bytes n (x % 256 ^ n) ≡ low_bytes n x
low_bytes-mod zero x = refl
low_bytes-mod (suc n) x =
    let positive : 0 < 256 ^ n = omega (arith, one-le-pow n 256 (omega arith)) in
    let power : 256 ^ suc n ≡ 256 ^ n * 256 = omega (arith, pow-suc 256 n) in
    let split : x % 256 ^ suc n ≡ (x / 256 % 256 ^ n) * 256 + x % 256 =
    ap (λ (m : ℕ). x % m) power ∙ mod-mul x positive (omega arith) in
    let low : x % 256 ^ suc n % 256 ≡ x % 256 = omega (arith, split) in
    let high : x % 256 ^ suc n / 256 ≡ x / 256 % 256 ^ n = omega (arith, split) in
    rw (low, high, low_bytes-mod n (x / 256)) refl

-- so do its bytes
pub spelled-mod : (order : Endian) (n x : ℕ) → spelled order n (x % 256 ^ n) ≡ spelled order n x
unfolding spelled
spelled-mod order n x = grind (arith, low_bytes-mod)

-- the number of one byte is the byte
pub number-one : (order : Endian) (b : ℕ) → number order (b ∷ []) ≡ b
unfolding number
number-one order b = grind arith

-- a byte is written as itself
pub spelled-one : (order : Endian) (b : ℕ) → b < 256 → spelled order 1 b ≡ b ∷ []
unfolding spelled
spelled-one Little b h = let e : b % 256 ≡ b = omega arith in ap (λ (d : ℕ). d ∷ []) e
spelled-one Big b h = let e : b % 256 ≡ b = omega arith in ap (λ (d : ℕ). d ∷ []) e

-- of any number the low part is read back
pub number-spelled_low : (order : Endian) (n x : ℕ) → number order (spelled order n x) ≡ x % 256 ^ n
number-spelled_low order n x =
    let positive : 0 < 256 ^ n = omega (arith, one-le-pow n 256 (omega arith)) in
    ap (number order) (sym (spelled-mod order n x)) ∙ number-spelled order n (x % 256 ^ n) (mod-lt x positive)
