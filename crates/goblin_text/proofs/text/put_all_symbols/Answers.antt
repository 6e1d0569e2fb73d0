-- The lines of all parts are put: each turn puts those of the first part that is left. So the looks of the parts so far
-- and of those that are left are the looks of all, also where a part fails.
use Rattle.goblin_text.proofs.Common.{◌+◌, arith, drop, common_steps, symbols_text}
use Rattle.goblin_text.proofs.TargetLemmas.{more_put}
use Rattle.goblin_text.proofs.LineLooks.{more_read, read_at_failure}
use Rattle.goblin_text.proofs.text.put_all_symbols.Goals as goal

pub loop-part-preserved : goal.loop-part-preserved
loop-part-preserved g c = record {
  reading = more_read c.args.names.now c.loop-part.names c.put_symbols.new.names _ _ _ _
      c.loop-part.invariant.reading (grind (arith, common_steps)) c.put_symbols.ensures.reading;
  put = more_put _ _ _ _ _ _ _ c.loop-part.invariant.put (grind (arith, common_steps)) c.in_ok-put_symbols.ensures.put;
  same_writer = grind (arith, common_steps);
}

pub returns-in_err-put_symbols-clause-reading : goal.returns-in_err-put_symbols-clause-reading
returns-in_err-put_symbols-clause-reading g c =
    let next = symbols_text c.args.names.now.bytes (drop (c.loop-part.part-index + 1) c.args.parts.now) in
    read_at_failure c.args.names.now c.loop-part.names c.put_symbols.new.names _ _ _ next
    c.loop-part.invariant.reading (grind (arith, common_steps)) c.put_symbols.ensures.reading
