use Rattle.goblin_base.proofs.Common.{◌≡◌, ℕ, ◌+◌, ◌-◌, ◌<◌, ◌≤◌, ◌^◌, false, eqb, get_or, min}
use Rattle.goblin_base.proofs.counted_bytes.CountedBytes.find.Given as goal

-- the byte is none of those that were read
abbrev pub invariant-loop-at : goal.invariant-loop-at
invariant-loop-at l = record {
  same : l.self.bytes ≡ l.fn.self.bytes;
  ordered : l.from ≤ l.at;
  within : l.at ≤ l.to;
  none : (k : ℕ) → l.from ≤ k → k < l.at → eqb (get_or l.fn.self.bytes k 0) l.byte ≡ false;
  counted : l.self.count ≡ min (l.fn.self.count + (l.at - l.from)) (2 ^ 128 - 1);
}

abbrev pub decreases-loop-at : goal.decreases-loop-at
decreases-loop-at l = l.to - l.at
