use Rattle.goblin_text.proofs.Common.{arith, common_steps}
use Rattle.goblin_text.proofs.LineLooks.{more_names}
use Rattle.goblin_text.proofs.accept.Context.accept_all_symbols.Goals as goal

pub loop-number-preserved : goal.loop-number-preserved
loop-number-preserved c = record {
  reading = more_names c.args.file.now c.loop-number.file c.accept_symbols.new.file _ _ _ (omega arith)
      c.loop-number.invariant.reading c.in_ok-accept_symbols.ensures.reading;
  shown = grind (arith, common_steps);
}

pub returns-in_err-accept_symbols-clause-added : goal.returns-in_err-accept_symbols-clause-added
returns-in_err-accept_symbols-clause-added c = grind (arith, common_steps)
