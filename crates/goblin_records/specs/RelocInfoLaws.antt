-- Laws of the parts of an `r_info`: they can be joined again, and the decoding of MIPS64 can be undone.
use Rattle.std.proofs.Common.{◌≡◌, ◌<◌, ◌*◌, ◌^◌, ℕ, List, ◌+◌, ◌/◌, ◌%◌, reverse}
use Rattle.goblin_records.specs.Common.{Container, number, spelled, refl, ◌∙◌, arith, sym, ap}
use Rattle.std.proofs.lemmas.List.{reverse-reverse}
use Rattle.goblin_base.specs.declared.container.Endian.TheVariants as order
use Rattle.goblin_base.specs.NumberLaws.{IsBytes-spelled, number-lt, number-spelled, length-spelled, spelled-number}
use Rattle.goblin_records.specs.RelocInfo.{symbols, types, symbol_in, type_in, info_of, JoinsItsParts, reversed}
use Rattle.goblin_records.specs.RelocInfo.{mips64el_info_inverse, Mips64elInverse, Mips64elOneToOne, Mips64elFourTimes}
use Rattle.goblin_records.specs.RelocInfo.{words_of, from_words, mips64el_info, mips64el_pair, mips64el_pair_inverse}

-- an `r_info` of the low bits of a symbol and a type is in range, and these are its parts
pub info_of-parts : (class : Container) (symbol typ : ℕ) → let info = info_of class symbol typ in
    (info < symbols class * types class) × (symbol_in class info ≡ symbol % symbols class)
    × (type_in class info ≡ typ % types class)
info_of-parts class symbol typ = grind arith

-- and it is the one of its parts
pub joins_its_parts : (class : Container) → JoinsItsParts class
joins_its_parts class info h = grind arith

-- the four big-endian bytes of a number are its little-endian ones reversed
spelled-big : (word : ℕ) → spelled order.Big 4 word ≡ reverse (spelled order.Little 4 word)
unfolding spelled
spelled-big word = refl

number-little : (bytes : List ℕ) → number order.Big (reverse bytes) ≡ number order.Little bytes
unfolding number
number-little bytes = ap (λ (all : List ℕ). number order.Little all) (reverse-reverse bytes)

-- four bytes are a number below 2 ^ 32 in either order
pub reversed-lt : (word : ℕ) → reversed word < 2 ^ 32
reversed-lt word =
    let below = number-lt order.Big (spelled order.Little 4 word) (IsBytes-spelled order.Little 4 word) in
    rw (length-spelled order.Little 4 word) at below

-- bytes that are reversed twice are unchanged
pub reversed-reversed : (word : ℕ) → word < 2 ^ 32 → reversed (reversed word) ≡ word
reversed-reversed word h =
    let bytes = spelled order.Little 4 word in
    let again : spelled order.Big 4 (reversed word) ≡ bytes =
    rw (length-spelled order.Little 4 word) at (spelled-number order.Big bytes (IsBytes-spelled order.Little 4 word)) in
    let turned : spelled order.Little 4 (reversed word) ≡ reverse bytes =
    sym (reverse-reverse (spelled order.Little 4 (reversed word)))
    ∙ ap reverse (sym (spelled-big (reversed word)) ∙ again) in
    ap (number order.Big) turned ∙ number-little bytes ∙ number-spelled order.Little 4 word h

-- the words of a number of words
high_of : (high low : ℕ) → low < 2 ^ 32 → (high * 2 ^ 32 + low) / 2 ^ 32 ≡ high
high_of high low h = omega arith

low_of : (high low : ℕ) → low < 2 ^ 32 → (high * 2 ^ 32 + low) % 2 ^ 32 ≡ low
low_of high low h = omega arith

-- the words of a standard `r_info` are the decoded ones
words-info : (info : ℕ) → words_of (mips64el_info info) ≡ mips64el_pair (words_of info)
words-info info =
    let word = reversed (info / 2 ^ 32) in
    let below = reversed-lt (info / 2 ^ 32) in
    rw (high_of (info % 2 ^ 32) word below, low_of (info % 2 ^ 32) word below) refl

pub mips64el_inverse : Mips64elInverse
mips64el_inverse info h =
    let high : info / 2 ^ 32 < 2 ^ 32 = omega arith in
    let low : info % 2 ^ 32 < 2 ^ 32 = omega arith in
    let word = reversed (info % 2 ^ 32) in
    let whole : (info / 2 ^ 32) * 2 ^ 32 + info % 2 ^ 32 ≡ info = omega arith in (
      ap (λ words. from_words (mips64el_pair_inverse words)) (words-info info)
          ∙ rw (reversed-reversed (info / 2 ^ 32) high) whole,
      rw (
        high_of word (info / 2 ^ 32) high,
        low_of word (info / 2 ^ 32) high,
        reversed-reversed (info % 2 ^ 32) low,
      ) whole,
    )

pub mips64el_one_to_one : Mips64elOneToOne
mips64el_one_to_one one other h k e =
    sym (mips64el_inverse one h).0 ∙ ap mips64el_info_inverse e ∙ (mips64el_inverse other k).0

pub mips64el_four_times : Mips64elFourTimes
mips64el_four_times info h =
    let high : info / 2 ^ 32 < 2 ^ 32 = omega arith in
    let low : info % 2 ^ 32 < 2 ^ 32 = omega arith in
    let whole : (info / 2 ^ 32) * 2 ^ 32 + info % 2 ^ 32 ≡ info = omega arith in
    let twice = words-info (mips64el_info info) ∙ ap mips64el_pair (words-info info) in
    let thrice = words-info (mips64el_info (mips64el_info info)) ∙ ap mips64el_pair twice in
    ap (λ words. from_words (mips64el_pair words)) thrice
    ∙ rw (reversed-reversed (info / 2 ^ 32) high, reversed-reversed (info % 2 ^ 32) low) whole

-- for the laws of each class
pub ruleset info_laws = (joins_its_parts, mips64el_one_to_one, mips64el_four_times)
