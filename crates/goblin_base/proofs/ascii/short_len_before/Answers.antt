-- The string passes the first sixteen bytes, and ends in the next 32, or passes these, too, and ends in the next 64.
use Rattle.goblin_base.proofs.Common.{◌≤◌, ◌<◌, ◌+◌, ◌==◌, ◌∙◌, ℕ, Bool, length, take, drop, ap, sym, arith}
use Rattle.goblin_base.proofs.Common.{position_or_len}
use Rattle.goblin_base.proofs.AsciiLemmas.{passes_on, stops_here}
use Rattle.goblin_base.proofs.ascii.short_len_before.Goals as goal

pub returns-then-len-lt32 : goal.returns-then-len-lt32
returns-then-len-lt32 c =
    let bytes = c.args.bytes.now in
    let test : ℕ → Bool = λ b. b == c.args.delim in
    let room : 112 ≤ length bytes = omega arith in
    let all : 16 ≤ position_or_len test (take 16 (drop 0 bytes)) = omega arith in
    let short : position_or_len test (take 32 (drop 16 bytes)) < 32 = omega arith in
    ap (λ n. 16 + n) (c.len_in-len-then-bytes-ge112.ensures
    ∙ sym (stops_here 32 test bytes 16 (omega (arith, room)) short))
    ∙ sym (passes_on 16 test bytes 0 (omega (arith, room)) all)

pub returns-then-len-lt64 : goal.returns-then-len-lt64
returns-then-len-lt64 c =
    let bytes = c.args.bytes.now in
    let test : ℕ → Bool = λ b. b == c.args.delim in
    let room : 112 ≤ length bytes = omega arith in
    let all : 16 ≤ position_or_len test (take 16 (drop 0 bytes)) = omega arith in
    let more : 32 ≤ position_or_len test (take 32 (drop 16 bytes)) = omega arith in
    let short : position_or_len test (take 64 (drop 48 bytes)) < 64 = omega arith in
    let last = c.len_in-len-then-bytes-ge112-2.ensures
    ∙ sym (stops_here 64 test bytes 48 (omega (arith, room)) short) in
    omega (
      arith,
      last,
      passes_on 32 test bytes 16 (omega (arith, room)) more,
      passes_on 16 test bytes 0 (omega (arith, room)) all,
    )
