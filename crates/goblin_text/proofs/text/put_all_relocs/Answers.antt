use Rattle.goblin_text.proofs.Common.{arith, common_steps}
use Rattle.goblin_text.proofs.TargetLemmas.{more_put}
use Rattle.goblin_text.proofs.text.put_all_relocs.Goals as goal

pub loop-part-preserved : goal.loop-part-preserved
loop-part-preserved g c = record {
  put = more_put _ _ _ _ _ _ _ c.loop-part.invariant.put (grind (arith, common_steps)) c.in_ok-put_relocs.ensures.put;
  same_writer = grind (arith, common_steps);
}
