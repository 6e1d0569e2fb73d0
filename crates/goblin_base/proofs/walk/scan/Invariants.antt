use Rattle.goblin_base.proofs.Common.{◌≡◌, ◌+◌, ◌-◌, ◌≤◌, length, CountsAtLeast}
use Rattle.goblin_base.proofs.ScanLemmas.{IsScanned}
use Rattle.goblin_base.proofs.walk.scan.Given as goal

abbrev pub invariant-loop-at : goal.invariant-loop-at
invariant-loop-at l = record {
  same : l.view.bytes ≡ l.fn.view.bytes;
  looks : l.view.count ≤ l.fn.view.count + (l.at - l.from);
  rising : l.fn.view.count ≤ l.view.count;
  least : CountsAtLeast l.fn.view.count (l.at - l.from) l.view.count;
  scanned : IsScanned l.fn.view.bytes l.delim l.from l.at l.awaited;
}

abbrev pub decreases-loop-at : goal.decreases-loop-at
decreases-loop-at l = length l.view.bytes - l.at
