-- The lines of all sections are put: each turn puts the first line of those that are left. So the looks of the lines so
-- far and of those that are left are the looks of all, also where a line fails.
use Rattle.goblin_text.proofs.Common.{◌+◌, arith, drop, common_steps, strings_in, section_lines}
use Rattle.goblin_text.proofs.TargetLemmas.{more_put}
use Rattle.goblin_text.proofs.LineLooks.{more_read, read_at_failure}
use Rattle.goblin_text.proofs.text.put_sections.Goals as goal

pub loop-number-preserved : goal.loop-number-preserved
loop-number-preserved g c = record {
  reading = more_read c.args.names.now c.loop-number.names c.put_named_section.new.names _ _ _ _
      c.loop-number.invariant.reading (grind (arith, common_steps)) c.put_named_section.ensures.reading;
  put = more_put _ _ _ _ _ _ _ c.loop-number.invariant.put
      (grind (arith, common_steps)) c.in_ok-put_named_section.ensures.put;
  same_writer = grind (arith, common_steps);
}

pub returns-in_err-put_named_section-clause-reading : goal.returns-in_err-put_named_section-clause-reading
returns-in_err-put_named_section-clause-reading g c =
    let next = section_lines (strings_in c.args.names.now.bytes c.args.file.now.parts.strings)
    (c.loop-number.number + 1)
    (drop (c.loop-number.number + 1) c.args.file.now.sections.items) in
    read_at_failure c.args.names.now c.loop-number.names c.put_named_section.new.names _ _ _ next
    c.loop-number.invariant.reading (grind (arith, common_steps)) c.put_named_section.ensures.reading
