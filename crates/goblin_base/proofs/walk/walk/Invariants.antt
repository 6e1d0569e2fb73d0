-- The entries stored so far and those from i on are all entries (`walked`), and strict mode found only text before i
-- (`strict`). The marks reach at most sixteen bytes past i, as `next_end` requires (`near`).
use Rattle.goblin_base.proofs.Common.{◌≡◌, ◌+◌, ◌-◌, ◌*◌, ◌<◌, ◌≤◌, length, max, min, IsAscii, CountsAtLeast, HaveMarks}
use Rattle.goblin_base.proofs.Common.{piece_end, Strict, IsWalkedTo}
use Rattle.goblin_base.proofs.WalkLemmas.{IsTextSoFar}
use Rattle.goblin_base.proofs.walk.walk.Given as goal

abbrev pub invariant-loop-i : goal.invariant-loop-i
invariant-loop-i l = record {
  same : l.view.bytes ≡ l.fn.view.bytes;
  within : l.i ≤ length l.fn.view.bytes + 1;
  walked : IsWalkedTo l.fn.view.bytes l.delim l.places.items l.i;
  strict : l.mode ≡ Strict → IsTextSoFar l.fn.view.bytes l.delim l.i;
  near : l.marks.until ≤ l.i + 16;
  marked : HaveMarks l.fn.view.bytes l.delim l.marks;
  -- a look for each byte that is marked or before i, and four more for each before i
  looks : l.view.count
      ≤ l.fn.view.count + max l.marks.until (min l.i (length l.fn.view.bytes)) + 4 * min l.i (length l.fn.view.bytes);
  -- of ASCII, the marks and the last bytes alone
  ascii : IsAscii l.fn.view.bytes
      → l.view.count ≤ l.fn.view.count + max l.marks.until (min l.i (length l.fn.view.bytes));
  rising : l.fn.view.count ≤ l.view.count;
  -- and as many at least as bytes were marked or passed
  least : CountsAtLeast l.fn.view.count (max l.marks.until (min l.i (length l.fn.view.bytes))) l.view.count;
  -- after the first turn, the first piece is passed
  passed : 0 < l.i → piece_end l.fn.view.bytes l.delim 0 ≤ l.i;
}

-- Each turn goes on at a later offset: after the end of the piece that it found,
-- or at the end that `walk_damaged` returns.
abbrev pub decreases-loop-i : goal.decreases-loop-i
decreases-loop-i l = length l.fn.view.bytes + 1 - l.i
