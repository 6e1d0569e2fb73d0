-- After i turns the buffer holds the first i entries (`laid-item`). Where there is no entry for the next place, these
-- were all, so the buffer stays as it is.
use Rattle.goblin_c.proofs.BufferLemmas.{ends-before, laid-enough, laid-item}
use Rattle.goblin_c.proofs.Common.{Some, arith, entries_left, slice_get, slice_get_within, ◌≡◌}
use Rattle.goblin_c.proofs.DynamicLemmas.{entry_at}
use Rattle.std.proofs.lemmas.List.{set-get_or}
use Rattle.goblin_c.proofs.dynamic.fill.Goals as goal

pub loop-i-preserved : goal.loop-i-preserved
loop-i-preserved c =
    let entries = entries_left c.args.all.now c.args.first in
    let found : slice_get entries c.loop-i.i ≡ Some c.in-Some.entry =
    grind (arith, entry_at c.args.all.now c.args.first c.loop-i.i, c.entry_at.ensures, c.in-Some.is) in
    let step = laid-item entries 0 c.loop-i.i c.args.buffer.now c.loop-i.buffer c.in-Some.entry in
    grind (arith, found, slice_get_within entries c.loop-i.i c.in-Some.entry found, c.loop-i.invariant, step)

pub returns-in-None-clause-written : goal.returns-in-None-clause-written
returns-in-None-clause-written c =
    let entries = entries_left c.args.all.now c.args.first in
    let entry = entry_at c.args.all.now c.args.first c.loop-i.i in
    let ends = ends-before entries c.loop-i.i in
    let same = set-get_or c.loop-i.buffer c.loop-i.i in
    let enough = laid-enough c.loop-i.i entries c.args.buffer.now in
    grind (arith, entry, c.entry_at.ensures, c.in-None.is, ends, same, c.loop-i.invariant, enough)

pub returns-in-None-clause-value : goal.returns-in-None-clause-value
returns-in-None-clause-value c =
    let entry = entry_at c.args.all.now c.args.first c.loop-i.i in
    let ends = ends-before (entries_left c.args.all.now c.args.first) c.loop-i.i in
    grind (arith, entry, c.entry_at.ensures, c.in-None.is, ends, c.loop-i.invariant)
