-- The lines of all symbols of a part are put: each turn puts the first line of those that are left. So the looks of the
-- lines so far and of those that are left are the looks of all, also where a line fails.
use Rattle.goblin_text.proofs.Common.{◌+◌, arith, common_steps, strings_in, symbol_lines}
use Rattle.goblin_text.proofs.TargetLemmas.{more_put}
use Rattle.goblin_text.proofs.LineLooks.{more_read, read_at_failure}
use Rattle.goblin_text.proofs.text.put_symbols.Goals as goal

pub loop-number-preserved : goal.loop-number-preserved
loop-number-preserved g c = record {
  reading = more_read c.args.names.now c.loop-number.names c.put_named_symbol.new.names _ _ _ _
      c.loop-number.invariant.reading (grind (arith, common_steps)) c.put_named_symbol.ensures.reading;
  count = grind (arith, common_steps);
  put = more_put _ _ _ _ _ _ _ c.loop-number.invariant.put
      (grind (arith, common_steps)) c.in_ok-put_named_symbol.ensures.put;
  same_writer = grind (arith, common_steps);
}

pub returns-in_err-put_named_symbol-clause-reading : goal.returns-in_err-put_named_symbol-clause-reading
returns-in_err-put_named_symbol-clause-reading g c =
    let next = symbol_lines (strings_in c.args.names.now.bytes c.args.part.now.strings) c.args.part.now.section
    (c.loop-number.number + 1) c.next.new.self in
    read_at_failure c.args.names.now c.loop-number.names c.put_named_symbol.new.names _ _ _ next
    c.loop-number.invariant.reading (grind (arith, common_steps)) c.put_named_symbol.ensures.reading
