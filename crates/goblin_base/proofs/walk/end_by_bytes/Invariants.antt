use Rattle.goblin_base.proofs.Common.{◌≡◌, ℕ, ◌+◌, ◌-◌, ◌<◌, ◌≤◌, ◌↔◌, false, true, eqb, length, get_or, CountsAtLeast}
use Rattle.goblin_base.proofs.Common.{AreAscii}
use Rattle.goblin_base.proofs.walk.end_by_bytes.Given as goal

abbrev pub invariant-loop-end : goal.invariant-loop-end
invariant-loop-end l = record {
  same : l.view.bytes ≡ l.fn.view.bytes;
  ordered : l.from ≤ l.end;
  within : l.end ≤ length l.fn.view.bytes;
  ascii : (l.is_ascii ≡ true) ↔ AreAscii l.fn.view.bytes l.from l.end;
  none : (k : ℕ) → l.from ≤ k → k < l.end → eqb (get_or l.fn.view.bytes k 0) l.delim ≡ false;
  looks : l.view.count ≤ l.fn.view.count + (l.end - l.from);
  rising : l.fn.view.count ≤ l.view.count;
  least : CountsAtLeast l.fn.view.count (l.end - l.from) l.view.count;
}

abbrev pub decreases-loop-end : goal.decreases-loop-end
decreases-loop-end l = length l.fn.view.bytes - l.end
