use Rattle.goblin_base.proofs.Common.{◌≡◌, ◌≤◌, ◌+◌, ◌==◌, ◌∙◌, ℕ, Bool, length, take, drop, ap, arith, position_or_len}
use Rattle.goblin_base.proofs.AsciiLemmas.{passes_on}
use Rattle.goblin_base.proofs.ascii.len_before.Goals as goal

pub loop-at-preserved : goal.loop-at-preserved
loop-at-preserved c =
    let bytes = c.args.bytes.now in
    let at = c.loop-at.at in
    let test : ℕ → Bool = λ b. b == c.args.delim in
    let room : at + 16 ≤ length bytes = omega arith in
    let all : 16 ≤ position_or_len test (take 16 (drop at bytes)) = omega arith in
    let more : at + (16 + position_or_len test (drop (at + 16) bytes))
    ≡ at + 16 + position_or_len test (drop (at + 16) bytes) = omega arith in
    record {
      within = room;
      so_far = c.loop-at.invariant.so_far ∙ ap (λ n. at + n) (passes_on 16 test bytes at room all) ∙ more;
    }
