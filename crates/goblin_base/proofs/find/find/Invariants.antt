use Rattle.goblin_base.proofs.Common.{◌≡◌, ℕ, ◌+◌, ◌<◌, ◌≤◌, ◌-◌, ◌^◌, min, length, slice_index}
use Rattle.goblin_base.specs.Search.{digits}
use Rattle.goblin_base.proofs.find.find.Given as goal

abbrev pub invariant-loop-size : goal.invariant-loop-size
invariant-loop-size l = record {
  same : l.view.places ≡ l.fn.view.places;
  within : l.low + l.size ≤ length l.fn.view.places;
  before : (k : ℕ) → k < l.low → slice_index l.fn.view.places k ≤ l.offset;
  after : (k : ℕ) → l.low + l.size ≤ k → k < length l.fn.view.places → l.offset < slice_index l.fn.view.places k;
  rising : l.fn.view.count ≤ l.view.count;
  most : l.view.count + digits l.size ≤ l.fn.view.count + digits (length l.fn.view.places);
  least : min (l.fn.view.count + digits (length l.fn.view.places + 1)) (2 ^ 64 - 1)
      ≤ l.view.count + digits (l.size + 1);
}

abbrev pub decreases-loop-size : goal.decreases-loop-size
decreases-loop-size l = l.size
