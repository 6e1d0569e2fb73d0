use Rattle.goblin_text.proofs.Common.{arith, common_steps, flat_map_more, strings_in, symbol_lines, symbols_shown}
use Rattle.goblin_text.proofs.accept.Context.accept_symbols.Goals as goal

pub returns-clause-added : goal.returns-clause-added
unfolding symbols_shown
returns-clause-added c = (
  symbol_lines (strings_in c.args.file.now.bytes c.in_ok-strings.strings) c.args.number 0 c.in_ok-table.table.symbols,
  grind (arith, common_steps),
  grind (arith, common_steps, flat_map_more),
)
