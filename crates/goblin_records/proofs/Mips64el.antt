-- The `r_info` of little-endian MIPS64 files, as the functions compute it.
use Rattle.std.proofs.Common.{◌≡◌, ◌<◌, ◌+◌, ◌*◌, ◌/◌, ◌%◌, ◌^◌, ℕ, w32, refl, ap, ◌∙◌, arith}
use Rattle.std.specs.Int.{swap_bytes}
use Rattle.goblin_base.specs.declared.container.Container.TheVariants.{Big}
use Rattle.goblin_base.specs.declared.container.Endian.TheVariants as order
use Rattle.goblin_base.specs.Common.{number, spelled}
use Rattle.goblin_base.specs.NumberLaws.{spelled-mod}
use Rattle.goblin_records.specs.RelocInfo.{symbol_in, type_in, info_of, reversed, mips64el_info, mips64el_info_inverse}
use Rattle.goblin_records.specs.RelocInfoLaws.{reversed-lt}

-- a word whose bytes are swapped, in std's words
swapped : (word : ℕ) → swap_bytes w32 word ≡ reversed word
unfolding number spelled
swapped word = omega arith

-- the low word comes before the high one, whose bytes were swapped
pub turned : (info high low word result : ℕ)
    → low ≡ info % 2 ^ 32 → high ≡ info / 2 ^ 32 → word ≡ swap_bytes w32 high → result ≡ info_of Big low word
    → result ≡ mips64el_info info
turned info high low word result l h w is =
    let same : word ≡ reversed (info / 2 ^ 32) = w ∙ swapped high ∙ ap reversed h in
    is ∙ rw (l, same) (omega arith)

-- and back
pub turned_back : (info high low word result : ℕ)
    → info < 2 ^ 64 → low ≡ info % 2 ^ 32 → high ≡ info / 2 ^ 32 → word ≡ swap_bytes w32 low
    → result ≡ info_of Big word high
    → result ≡ mips64el_info_inverse info
turned_back info high low word result range l h w is =
    let same : word ≡ reversed (info % 2 ^ 32) = w ∙ swapped low ∙ ap reversed l in
    is ∙ rw (h, same) (omega arith)

-- the symbol and the type of a relocation that was decoded
pub meant_parts : (symbol typ read info : ℕ)
    → typ < 2 ^ 32 → read ≡ info_of Big symbol typ → info ≡ mips64el_info read
    → (symbol_in Big info ≡ typ) × (type_in Big info ≡ reversed symbol)
meant_parts symbol typ read info h r i =
    let high : read / 2 ^ 32 ≡ symbol % 2 ^ 32 = omega arith in
    let low : read % 2 ^ 32 ≡ typ = omega arith in
    let same : reversed (symbol % 2 ^ 32) ≡ reversed symbol =
    ap (number order.Big) (spelled-mod order.Little 4 symbol) in
    let below = reversed-lt symbol in
    let is : info ≡ typ * 2 ^ 32 + reversed symbol = i ∙ rw (high, low, same) refl in
    (omega arith, omega arith)
