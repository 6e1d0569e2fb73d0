use Rattle.goblin_c.proofs.Common.{drop, laid, length, take, ◌+◌, ◌≡◌, ◌≤◌}
use Rattle.goblin_c.proofs.items.fill.Given as goal

abbrev pub invariant-loop-i : goal.invariant-loop-i
invariant-loop-i g l =
    let all = g.L.Listed.listed l.all in
    record {
      within : l.first + l.i ≤ length all;
      filled : l.buffer ≡ laid (take l.i (drop l.first all)) l.initial.buffer;
    }
