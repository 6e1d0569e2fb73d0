-- After i turns the buffer holds the first i items from `first` on (`laid-item`). Where the list has no item for the
-- next place, these were all, so the buffer stays as it is (`laid-ended`).
use Rattle.goblin_c.proofs.BufferLemmas.{laid-ended, laid-item}
use Rattle.goblin_c.proofs.Common.{arith, slice_get_within, ◌+◌}
use Rattle.std.proofs.lemmas.List.{set-get_or}
use Rattle.goblin_c.proofs.items.fill.Goals as goal

pub loop-i-preserved : goal.loop-i-preserved
loop-i-preserved g c =
    let all = g.L.Listed.listed c.args.all.now in
    let inside = slice_get_within all (c.args.first + c.loop-i.i) c.in-Some.item in
    let step = laid-item all c.args.first c.loop-i.i c.args.buffer.now c.loop-i.buffer c.in-Some.item in
    grind (arith, c.converted.ensures, c.in-Some.is, c.loop-i.invariant, inside, step)

pub returns-in-None-clause-written : goal.returns-in-None-clause-written
returns-in-None-clause-written g c =
    grind (
      arith,
      c.converted.ensures,
      c.in-None.is,
      c.loop-i.invariant,
      set-get_or c.loop-i.buffer c.loop-i.i,
      laid-ended (g.L.Listed.listed c.args.all.now) c.args.first c.loop-i.i c.args.buffer.now c.loop-i.buffer,
    )
