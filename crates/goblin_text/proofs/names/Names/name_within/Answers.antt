-- The name is the string from its place on, if that is text: a place past the end or at a continuation byte has none. A
-- long name is text and is returned whole, so its length bounds the looks for it.
use Rattle.goblin_text.proofs.Common.{◌≡◌, ◌∙◌, ◌+◌, ◌-◌, arith, inl, inr, length, slice_range, common_steps}
use Rattle.goblin_text.proofs.Common.{length_of_range}
use Rattle.goblin_text.proofs.FoundNames.{name_in_range, nothing, text_length}
use Rattle.goblin_text.proofs.names.Names.name_within.Goals as goal

pub returns-in-None-clause-value : goal.returns-in-None-clause-value
returns-in-None-clause-value c =
    nothing _ (grind (arith, common_steps))
    ∙ name_in_range c.args.self.now.bytes c.args.start c.args.end c.args.offset c.requires.ordered c.requires.within
    c.if-offset-end.false

pub returns-in-Some-clause-reading : goal.returns-in-Some-clause-reading
returns-in-Some-clause-reading c =
    let bytes = c.args.self.now.bytes in
    let place = c.args.start + c.args.offset in
    let stop = c.in-Some.stop in
    let size : length (slice_range c.end_of_name.new.self.bytes place stop) ≡ stop - place =
    length_of_range c.end_of_name.new.self.bytes place stop (grind (arith, common_steps)) in
    record {
      unchanged = grind (arith, common_steps);
      looks = λ short. elim (c.in-Some.ensures.looks_near (grind (arith, common_steps))) [
        | inl near ↦ grind (arith, common_steps, near)
        | inr text ↦ grind (arith, common_steps, text, size, text_length)
      ];
      looks_least = grind (arith, common_steps);
    }
