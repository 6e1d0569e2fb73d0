use Rattle.goblin_base.proofs.Common.{◌≡◌, ◌≤◌, length, piece_start}
use Rattle.goblin_base.proofs.searches.last_start.Given as goal

-- no delimiter stands from here on
abbrev pub invariant-loop-start : goal.invariant-loop-start
invariant-loop-start l = record {
  within : l.start ≤ length l.bytes;
  same : piece_start l.bytes l.delim (length l.bytes) ≡ piece_start l.bytes l.delim l.start;
}

abbrev pub decreases-loop-start : goal.decreases-loop-start
decreases-loop-start l = l.start
