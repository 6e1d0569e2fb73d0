-- A long name ends in the first block that isn't text with no zero byte, or after the last block: up to there it is
-- text with no zero byte, so its end is the one that is found from there on.
use Rattle.goblin_text.proofs.Common.{◌≡◌, ◌+◌, ◌*◌, ◌<◌, ◌≤◌, arith, slice_range, common_steps}
use Rattle.goblin_text.proofs.Common.{ZeroFree, BLOCK, EndsAt, IsBlock, IsRunEnd, IsZeroFree, IsTextUpTo}
use Rattle.goblin_text.proofs.Common.{block_start, last_block, next_block}
use Rattle.goblin_text.proofs.CharStarts.{char_start_bounds}
use Rattle.goblin_text.proofs.LongNames.{RunsTo, ends_after, ends_in_block, zero_free_to_run, text_after}
use Rattle.goblin_text.proofs.names.Names.end_of_long_name.Goals.{After-end_of_text, then-run-last, else-run-last}
use Rattle.goblin_text.proofs.names.Names.end_of_long_name.Goals as goal

-- where the run of blocks ends
run_is_end : (c : After-end_of_text)
    → IsRunEnd ZeroFree c.args.self.now.bytes (next_block c.args.place) c.run_end.result
run_is_end c = grind (arith, common_steps, c.run_end.ensures.end)

-- text with no zero byte goes on up to the block that is searched
record Before (c : After-end_of_text) : Type 0 where
  from : c.args.place ≤ block_start c.args.self.now.bytes c.min-run.result
  zero_free : IsZeroFree
      (slice_range c.args.self.now.bytes c.args.place (block_start c.args.self.now.bytes c.min-run.result))

before : (c : After-end_of_text) → Before c
before c =
    let bytes = c.args.self.now.bytes in
    let run = c.min-run.result in
    let e = run_is_end c in
    let most : run ≤ c.run_end.result = grind (arith, common_steps) in
    let first : next_block c.args.place ≤ run = grind (arith, common_steps, e.order) in
    let bounds = char_start_bounds bytes (run * BLOCK) in
    let to : RunsTo bytes c.args.place run = record {
      order = first;
      head = grind (arith, common_steps);
      blocks = λ k from below. e.run k from (omega (arith, most, below));
    } in
    record { from = omega (arith, first); zero_free = zero_free_to_run bytes c.args.place c.args.end c.requires run to }

pub returns-clause-end : goal.returns-clause-end
returns-clause-end c =
    let bytes = c.args.self.now.bytes in
    let run = c.min-run.result in
    let from = block_start bytes run in
    let most : run ≤ last_block c.args.end = grind (arith, common_steps) in
    let bounds = char_start_bounds bytes (run * BLOCK) in
    let next = char_start_bounds bytes ((run + 1) * BLOCK) in
    let front = before (goal.at.returns-clause-end c).After-end_of_text in
    let found : EndsAt bytes from c.args.end c.end_of_text.result = elim c.if-run-last.branch [
      | then-run-last w ↦ grind (arith, common_steps)
      | else-run-last w ↦
          let early : run < last_block c.args.end = grind (arith, common_steps) in
          let e : IsRunEnd ZeroFree bytes (next_block c.args.place) c.run_end.result =
          run_is_end (goal.at.returns-clause-end c).After-end_of_text in
          let ends : c.run_end.result ≡ run = grind (arith, common_steps) in
          let other : ¬ (IsBlock ZeroFree bytes run) =
          rw (← ends) (e.stops (omega (arith, early, ends, c.requires.within))) in
          let there : EndsAt bytes from (block_start bytes (run + 1)) c.end_of_text.result =
          grind (arith, common_steps) in
          let text : IsTextUpTo bytes from c.end_of_text.result = grind (arith, common_steps) in
          ends_in_block bytes run c.args.end c.end_of_text.result
          (omega (arith, early)) c.requires.within other there text
    ] in
    ends_after bytes c.args.place from c.args.end c.end_of_text.result front.from
    (omega (arith, most, c.requires.blocks)) front.zero_free found

pub returns-clause-text : goal.returns-clause-text
returns-clause-text c =
    let bytes = c.args.self.now.bytes in
    let from = block_start bytes c.min-run.result in
    let front = before (goal.at.returns-clause-text c).After-end_of_text in
    let found : EndsAt bytes from c.if-run-last.to c.end_of_text.result = grind (arith, common_steps) in
    let text : IsTextUpTo bytes from c.end_of_text.result = grind (arith, common_steps) in
    text_after bytes c.args.place from c.if-run-last.to c.end_of_text.result front.from front.zero_free found text
