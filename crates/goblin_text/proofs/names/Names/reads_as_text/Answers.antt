-- A range is text exactly if its two ends are text and the blocks between them: no edge cuts a character.
use Rattle.goblin_text.proofs.Common.{◌≡◌, ◌<◌, ◌≤◌, arith, refl, slice_range, subst, sym, both_ways, common_steps}
use Rattle.goblin_text.proofs.Common.{IsUtf8, Text, IsRunEnd, block_start, blocks, last_block, next_block}
use Rattle.goblin_text.proofs.LongNames.{parts_are_text, text_has_parts}
use Rattle.goblin_text.proofs.names.Names.reads_as_text.Goals.{After-run_end}
use Rattle.goblin_text.proofs.names.Names.reads_as_text.Goals as goal

-- where the run of blocks ends that are text
run_is_end : (c : After-run_end) → IsRunEnd Text c.args.self.now.bytes (next_block c.args.start) c.run_end.result
run_is_end c = grind (arith, common_steps, c.run_end.ensures.end)

pub returns-then-not-is_text-clause-value : goal.returns-then-not-is_text-clause-value
returns-then-not-is_text-clause-value c = (
  λ t. absurd (both_ways _ refl t),
  λ u.
      let bytes = c.args.self.now.bytes in
      let parts = text_has_parts bytes c.args.start c.args.end (omega arith) c.requires.within u in
      let head : IsUtf8 (slice_range c.char_start-begin.new.view.bytes c.args.start c.char_start-begin.result) =
      grind (arith, common_steps, parts.head) in
      absurd (both_ways _ c.if-not-is_text.true (c.is_text-2.ensures.value.1 head)),
)

pub returns-then-run_end-last-clause-value : goal.returns-then-run_end-last-clause-value
returns-then-run_end-last-clause-value c = (
  λ t. absurd (both_ways _ refl t),
  λ u.
      let bytes = c.args.self.now.bytes in
      let run = run_is_end (goal.at.returns-then-run_end-last-clause-value c).After-run_end in
      let parts = text_has_parts bytes c.args.start c.args.end (omega arith) c.requires.within u in
      let before : c.run_end.result < last_block c.args.end = grind (arith, common_steps) in
      let short : c.run_end.result < blocks bytes = omega (arith, before, c.requires.within) in
      absurd (run.stops short (parts.blocks c.run_end.result run.order before)),
)

pub returns-clause-value : goal.returns-clause-value
returns-clause-value c =
    let bytes = c.args.self.now.bytes in
    let first = next_block c.args.start in
    let last = last_block c.args.end in
    let run = run_is_end (goal.at.returns-clause-value c).After-run_end in
    let to : last ≤ c.run_end.result = grind (arith, common_steps) in
    let head : slice_range c.char_start-begin.new.view.bytes c.args.start c.char_start-begin.result
    ≡ slice_range bytes c.args.start (block_start bytes first) = grind (arith, common_steps) in
    let rest : slice_range c.char_start-rest.new.view.bytes c.char_start-rest.result c.args.end
    ≡ slice_range bytes (block_start bytes last) c.args.end = grind (arith, common_steps) in (
      λ t. parts_are_text bytes c.args.start c.args.end (omega arith) c.requires.within (record {
        head = subst IsUtf8 head (c.is_text-2.ensures.value.0 c.if-not-is_text.false);
        blocks = λ k from before. run.run k from (omega (arith, to, before));
        rest = subst IsUtf8 rest (c.is_text-3.ensures.value.0 t);
      }),
      λ u. c.is_text-3.ensures.value.1 (subst IsUtf8 (sym rest)
          (text_has_parts bytes c.args.start c.args.end (omega arith) c.requires.within u).rest),
    )
