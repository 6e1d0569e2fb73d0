use Rattle.goblin_text.proofs.Common.{arith, common_steps}
use Rattle.goblin_text.proofs.TargetLemmas.{more_put}
use Rattle.goblin_text.proofs.lines.put_all.Goals as goal

pub loop-text-preserved : goal.loop-text-preserved
loop-text-preserved g c = record {
  put = more_put _ _ _ _ _ _ _ c.loop-text.invariant.put (grind (arith, common_steps)) c.in_ok-put.ensures.put;
  same_writer = grind (arith, common_steps);
}
