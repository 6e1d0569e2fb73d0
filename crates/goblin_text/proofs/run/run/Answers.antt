-- A run whose input is too long, or for which memory ran out, writes one line with that reason or fails, as `refuse`
-- says. Of the reader it says what `input_of` says. If all was read, `show_file` says how it ended.
use Rattle.goblin_text.proofs.Common.{◌≡◌, arith, inl, inr, refl, subst, common_steps, rules, vec_items}
use Rattle.goblin_text.specs.RunOutcome.{IsReasonOf}
use Rattle.std.specs.Fmt.{digits}
use Rattle.goblin_text.proofs.run.run.Goals as goal

pub returns-in-TooLong : goal.returns-in-TooLong
unfolding digits
returns-in-TooLong g c = record {
  shown = λ e. absurd (c.refuse.ensures.shown e);
  refused = λ e.
      let input = c.in-TooLong.ensures.input in
      let bytes = input.0 in
      let too_many = input.1 in
      (_, inr (inl (bytes, too_many, refl)), c.refuse.ensures.refused e);
  failed = λ e. inr (c.refuse.ensures.failed e);
  heeds_reader = grind (arith, common_steps);
  heeds_writer = grind (arith, common_steps);
  stopped = c.refuse.ensures.stopped;
  stops_reading = grind (arith, common_steps);
  most = grind (arith, common_steps);
  calls = grind (arith, common_steps);
}

pub returns-in-OutOfMemory : goal.returns-in-OutOfMemory
returns-in-OutOfMemory g c = record {
  shown = λ e. absurd (c.refuse-in-OutOfMemory.ensures.shown e);
  refused = λ e. (_, inr (inr (c.in-OutOfMemory.ensures.input, refl)), c.refuse-in-OutOfMemory.ensures.refused e);
  failed = λ e. inr (c.refuse-in-OutOfMemory.ensures.failed e);
  heeds_reader = grind (arith, common_steps);
  heeds_writer = grind (arith, common_steps);
  stopped = c.refuse-in-OutOfMemory.ensures.stopped;
  stops_reading = grind (arith, common_steps);
  most = grind (arith, common_steps);
  calls = grind (arith, common_steps);
}

pub returns : goal.returns
returns g c = record {
  shown = search rules;
  refused = λ e.
      let said = c.show_file.ensures.refused (search rules) in
      let is : c.new-file.result.bytes ≡ vec_items c.in-Whole.bytes = search rules in
      let reason = subst (λ bytes. IsReasonOf c.args.opts.now.parse_mode bytes said.0) is said.1 in
      (said.0, inl (_, c.in-Whole.ensures.input, reason), said.2);
  failed = search rules;
  heeds_reader = search rules;
  heeds_writer = search rules;
  stopped = c.show_file.ensures.stopped;
  stops_reading = search rules;
  most = search rules;
  calls = search rules;
}
