use Rattle.goblin_base.proofs.Common.{◌≡◌, ◌+◌, ◌^◌, ◌<◌, false, drop, length, suc, digits, digits_onto}
use Rattle.goblin_base.proofs.digits.Digits.by_base.Given as goal

-- the digits of the rest come before those that are written
abbrev pub invariant-loop-left : goal.invariant-loop-left
invariant-loop-left l = record {
  size : length l.bytes ≡ 20;
  room : l.start < 20;
  short : l.left < l.base ^ (suc l.start);
  digits : digits_onto (suc (l.start + 44)) l.base false l.left (drop (l.start + 1) l.bytes)
      ≡ digits l.base false l.number;
}

abbrev pub decreases-loop-left : goal.decreases-loop-left
decreases-loop-left l = l.start
