use Rattle.goblin_c.proofs.Common.{laid, take, ◌≡◌}
use Rattle.goblin_c.proofs.texts.write_bytes.Given as goal

abbrev pub invariant-loop-i : goal.invariant-loop-i
invariant-loop-i l = l.buffer ≡ laid (take l.i l.bytes) l.initial.buffer
