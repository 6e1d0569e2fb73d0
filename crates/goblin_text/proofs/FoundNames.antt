-- The names that look-ups find.
use Rattle.goblin_text.proofs.Common.{◌≡◌, ◌∙◌, ℕ, ◌+◌, ◌-◌, ◌<◌, ◌≤◌, if◌then◌else◌, List, [], length, drop, refl, sym}
use Rattle.goblin_text.proofs.Common.{ap, arith, nat_tests, slice_range, get_or, lit<, false_from_ne_true}
use Rattle.goblin_text.proofs.Common.{IsUtf8-from_is_utf8, is_utf8-from_IsUtf8, IsUtf8, is_utf8, text_table, LacksText}
use Rattle.goblin_text.proofs.Common.{after_continuation, up_to_zero, name_at, piece, name-later, name-past}
use Rattle.goblin_text.proofs.Common.{names_are_plain, length_of_range, get_in_range}
use Rattle.goblin_text.proofs.ByteRanges.{rest_of_range}

pub name_past_end : (bytes : List ℕ) (o : ℕ) → length bytes ≤ o → [] ≡ name_at (text_table bytes) o
name_past_end bytes o l = sym (name-past bytes 0 o l)

-- a text, or nothing where bytes are none
abbrev pub text_or_nothing : List ℕ → List ℕ
text_or_nothing bytes = if is_utf8 bytes then bytes else []

-- a name is the bytes up to a zero byte, where these are text
pub name_here : (bytes : List ℕ) (o : ℕ)
    → o < length bytes → text_or_nothing (up_to_zero (drop o bytes)) ≡ name_at (text_table bytes) o
unfolding piece up_to_zero
name_here bytes o l = sym (names_are_plain (text_table bytes) o refl l ∙ grind arith)

-- a name in a range of a file
pub name_in_range : (bytes : List ℕ) (i j o : ℕ)
    → i ≤ j → j ≤ length bytes → o < j - i
    → text_or_nothing (up_to_zero (slice_range bytes (i + o) j)) ≡ name_at (text_table (slice_range bytes i j)) o
name_in_range bytes i j o l m h =
    let size : length (slice_range bytes i j) ≡ j - i = length_of_range bytes i j m in
    rw (← rest_of_range bytes i j o (omega arith)) (name_here (slice_range bytes i j) o (omega arith))

-- a byte that goes on with a character begins no name
pub name_later : (bytes : List ℕ) (i j o : ℕ)
    → i ≤ j → j ≤ length bytes → o < j - i → i + o < after_continuation bytes (i + o)
    → [] ≡ name_at (text_table (slice_range bytes i j)) o
unfolding after_continuation
name_later bytes i j o l m h on =
    let size : length (slice_range bytes i j) ≡ j - i = length_of_range bytes i j m in
    let byte : get_or (slice_range bytes i j) o 0 ≡ get_or bytes (i + o) 0 = get_in_range bytes i j o h in
    sym (name-later (slice_range bytes i j) 0 o (lit< tt) (omega arith) (grind (arith, nat_tests))
    (grind (arith, nat_tests)))

-- bytes that are text are all of it
pub text_length : (bytes text : List ℕ) → IsUtf8 bytes → text ≡ text_or_nothing bytes → length text ≡ length bytes
text_length bytes text u e = ap length e ∙ ap (λ b. length (if b then bytes else [])) (is_utf8-from_IsUtf8 bytes u)

-- where a text is lacking there is no name
pub nothing : (bytes : List ℕ) → LacksText bytes → [] ≡ text_or_nothing (up_to_zero bytes)
nothing bytes lacks = rw (false_from_ne_true _ (λ t. lacks (IsUtf8-from_is_utf8 (up_to_zero bytes) t))) refl

pub ruleset names_found = (name_past_end, name_later, name_in_range, nothing, text_length, length_of_range)
