-- The offsets before i have their entries (`walked`), and i still lies in the piece that ends at `end` (`ends`). An
-- attempt that fails takes at most two looks for each byte that it passes, and the next one begins where it stopped: so
-- all together take at most two for each byte before i.
use Rattle.goblin_base.proofs.Common.{◌≡◌, ◌+◌, ◌-◌, ◌*◌, ◌≤◌, CountsAtLeast, piece_end, IsWalkedTo}
use Rattle.goblin_base.proofs.walk.walk_damaged.Given as goal

abbrev pub invariant-loop-i : goal.invariant-loop-i
invariant-loop-i l = record {
  same : l.view.bytes ≡ l.fn.view.bytes;
  from : l.from ≤ l.i;
  within : l.i ≤ l.end;
  ends : piece_end l.fn.view.bytes l.delim l.i ≡ l.end;
  walked : IsWalkedTo l.fn.view.bytes l.delim l.places.items l.i;
  looks : l.view.count ≤ l.fn.view.count + 2 * (l.i - l.from);
  rising : l.fn.view.count ≤ l.view.count;
  least : CountsAtLeast l.fn.view.count (l.i - l.from) l.view.count;
}

abbrev pub decreases-loop-i : goal.decreases-loop-i
decreases-loop-i l = l.end - l.i

abbrev pub invariant-loop-place : goal.invariant-loop-place
invariant-loop-place l = IsWalkedTo l.fn.view.bytes l.delim l.places.items l.place
