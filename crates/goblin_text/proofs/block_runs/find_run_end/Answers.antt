-- A block whose end is known ends the search: the blocks before it are of the kind, so the run goes on to that end.
use Rattle.goblin_text.proofs.Common.{◌≡◌, ◌<◌, arith, get_or, length, common_steps}
use Rattle.goblin_text.proofs.RunEnds.{end_after, end_known}
use Rattle.goblin_text.proofs.block_runs.find_run_end.Goals as goal

pub returns-then-known-gt0-clause-end : goal.returns-then-known-gt0-clause-end
returns-then-known-gt0-clause-end c =
    let k = c.loop-block.block in
    let kept : c.from-known.result ≡ get_or c.args.ends.now k 0 = grind (arith, common_steps) in
    let there : k < length c.args.ends.now = grind (arith, common_steps) in
    let known = end_known c.args.kind c.args.view.now.bytes c.args.ends.now k c.requires.known there
    (omega (arith, kept, c.if-known-gt0.true)) in
    rw kept (end_after c.args.kind c.args.view.now.bytes c.args.first k _ c.loop-block.invariant.from
    c.loop-block.invariant.run known)

pub returns-then-known-gt0-clause-bound : goal.returns-then-known-gt0-clause-bound
returns-then-known-gt0-clause-bound c =
    let k = c.loop-block.block in
    let kept : c.from-known.result ≡ get_or c.args.ends.now k 0 = grind (arith, common_steps) in
    let there : k < length c.args.ends.now = grind (arith, common_steps) in
    let known = end_known c.args.kind c.args.view.now.bytes c.args.ends.now k c.requires.known there
    (omega (arith, kept, c.if-known-gt0.true)) in
    omega (arith, kept, known.order)
