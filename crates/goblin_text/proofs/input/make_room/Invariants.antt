use Rattle.goblin_text.proofs.Common.{◌≡◌, ◌-◌, ◌≤◌, take, vec_len}
use Rattle.goblin_text.proofs.input.make_room.Given as goal

-- What was filled stays, and there is no more than the end.
abbrev pub invariant-loop-bytes : goal.invariant-loop-bytes
invariant-loop-bytes l = record {
  unchanged : take l.filled l.bytes.items ≡ take l.filled l.initial.bytes.items;
  filled : l.filled ≤ vec_len l.bytes;
  short : vec_len l.bytes ≤ l.end;
}

abbrev pub decreases-loop-bytes : goal.decreases-loop-bytes
decreases-loop-bytes l = l.end - vec_len l.bytes
