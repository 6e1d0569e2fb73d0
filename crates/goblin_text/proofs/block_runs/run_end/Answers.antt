-- Each end that the loop stores is that of the run from its block on: the run from the first block ends there, and no
-- block that was read lies past that end. None had an end before, so each makes one block fewer unknown.
use Rattle.goblin_text.proofs.Common.{◌<◌, arith, length, common_steps, blocks}
use Rattle.goblin_text.proofs.RunEnds.{end_later, end_more, unknown_less}
use Rattle.goblin_text.proofs.block_runs.run_end.Goals as goal

pub loop-block-preserved : goal.loop-block-preserved
loop-block-preserved c =
    let bytes = c.args.view.now.bytes in
    let ends = c.loop-block.ends in
    let k = c.loop-block.block in
    let found = c.find_run_end-found in
    let here : k < found.result.read = grind (arith, common_steps) in
    let there : k < length ends = grind (arith, common_steps) in
    let among : k < blocks bytes = omega (arith, here, found.ensures.within) in
    let some : 0 < found.result.end =
    omega (arith, here, found.ensures.bound, c.requires.some, c.loop-block.invariant.from) in
    let is = end_later c.args.kind bytes c.args.first k found.result.end c.loop-block.invariant.from
    (omega (arith, here, found.ensures.bound)) found.ensures.end in
    let less = unknown_less (blocks bytes) ends k found.result.end among there
    (c.loop-block.invariant.rest k (omega arith) here) some in
    record {
      from = omega (arith, c.loop-block.invariant.from);
      known = end_more c.args.kind bytes ends k found.result.end c.loop-block.invariant.known there is;
      fewer = omega (arith, less, c.loop-block.invariant.fewer, c.loop-block.invariant.from);
      rest = λ j from to. grind (arith, common_steps, c.loop-block.invariant.rest j (omega (arith, from)) to);
    }
