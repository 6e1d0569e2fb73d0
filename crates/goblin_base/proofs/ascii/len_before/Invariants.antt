use Rattle.goblin_base.proofs.Common.{◌≡◌, ◌≤◌, ◌+◌, ◌==◌, length, drop, ◌-◌, position_or_len}
use Rattle.goblin_base.proofs.ascii.len_before.Given as goal

abbrev pub invariant-loop-at : goal.invariant-loop-at
invariant-loop-at l = record {
  within : l.at ≤ length l.bytes;
  so_far : position_or_len (λ b. b == l.delim) l.bytes ≡ l.at + position_or_len (λ b. b == l.delim) (drop l.at l.bytes);
}

abbrev pub decreases-loop-at : goal.decreases-loop-at
decreases-loop-at l = length l.bytes - l.at
