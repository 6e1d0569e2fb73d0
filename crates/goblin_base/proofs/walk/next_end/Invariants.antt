-- No byte from the start of the piece up to `at` is the delimiter (`none`), and the marks reach no further than `at`.
-- Only the bytes from `max marks.until from` of the call on were looked at since: those before were already marked.
use Rattle.goblin_base.proofs.Common.{◌≡◌, ℕ, ◌+◌, ◌-◌, ◌<◌, ◌≤◌, ◌↔◌, false, true, eqb, length, get_or, max}
use Rattle.goblin_base.proofs.Common.{CountsAtLeast, AreAscii, HaveMarks}
use Rattle.goblin_base.proofs.walk.next_end.Given as goal

abbrev pub invariant-loop-at : goal.invariant-loop-at
invariant-loop-at l = record {
  same : l.view.bytes ≡ l.fn.view.bytes;
  ordered : l.from ≤ l.at;
  within : l.at ≤ length l.fn.view.bytes;
  past : l.marks.until ≤ l.at;
  marked : HaveMarks l.fn.view.bytes l.delim l.marks;
  grows : l.fn.marks.until ≤ l.marks.until;
  reach : max l.fn.marks.until l.from ≤ l.at;
  none : (k : ℕ) → l.from ≤ k → k < l.at → eqb (get_or l.fn.view.bytes k 0) l.delim ≡ false;
  ascii : (l.is_ascii ≡ true) ↔ AreAscii l.fn.view.bytes l.from l.at;
  looks : l.view.count ≤ l.fn.view.count + (l.at - max l.fn.marks.until l.from);
  rising : l.fn.view.count ≤ l.view.count;
  least : CountsAtLeast l.fn.view.count (l.at - max l.fn.marks.until l.from) l.view.count;
}

abbrev pub decreases-loop-at : goal.decreases-loop-at
decreases-loop-at l = length l.fn.view.bytes - l.at
