use Rattle.goblin_c.proofs.Common.{closed_len, length, take, ◌≡◌, ◌≤◌}
use Rattle.goblin_c.proofs.strings.closed_len.Given as goal

abbrev pub invariant-loop-len : goal.invariant-loop-len
invariant-loop-len l = (l.len ≤ length l.strings) × (closed_len l.strings ≡ closed_len (take l.len l.strings))

-- proposed from the loop's first test
abbrev pub decreases-loop-len : goal.decreases-loop-len
decreases-loop-len l = l.len
