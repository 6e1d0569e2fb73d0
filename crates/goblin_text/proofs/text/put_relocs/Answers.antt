use Rattle.goblin_text.proofs.Common.{arith, common_steps}
use Rattle.goblin_text.proofs.TargetLemmas.{more_put}
use Rattle.goblin_text.proofs.text.put_relocs.Goals as goal

pub loop-number-preserved : goal.loop-number-preserved
loop-number-preserved g c = record {
  count = grind (arith, common_steps);
  put = more_put _ _ _ _ _ _ _ c.loop-number.invariant.put (grind (arith, common_steps)) c.in_ok-put_reloc.ensures.put;
  same_writer = grind (arith, common_steps);
}
