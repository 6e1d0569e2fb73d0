use Rattle.goblin_text.proofs.Common.{arith, common_steps, flat_map_more, reloc_lines, relocs_shown}
use Rattle.goblin_text.proofs.accept.Context.accept_relocs.Goals as goal

pub returns : goal.returns
unfolding relocs_shown
returns c = (
  reloc_lines c.args.number 0 c.in_ok-relocs.relocs,
  grind (arith, common_steps),
  grind (arith, common_steps, flat_map_more),
)
