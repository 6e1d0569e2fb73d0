use Rattle.goblin_text.proofs.Common.{◌≡◌, ◌+◌, arith, slice_range, subst, sym, common_steps, IsBlock, IsOfKind}
use Rattle.goblin_text.proofs.Common.{block_start}
use Rattle.goblin_text.proofs.block_runs.is_block_of.Goals as goal

pub returns-clause-value : goal.returns-clause-value
unfolding IsBlock
returns-clause-value c =
    let bytes = c.args.view.now.bytes in
    let k = c.args.block in
    let is : slice_range c.char_start-to.new.view.bytes c.char_start-from.result c.char_start-to.result
    ≡ slice_range bytes (block_start bytes k) (block_start bytes (k + 1)) = grind (arith, common_steps) in (
      λ t. subst (IsOfKind c.args.kind) is (c.is_of.ensures.value.0 t),
      λ b. c.is_of.ensures.value.1 (subst (IsOfKind c.args.kind) (sym is) b),
    )
