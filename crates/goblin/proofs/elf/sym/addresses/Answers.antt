use Rattle.std.proofs.Common.{arith}
use Rattle.std.proofs.lemmas.Grind.{common_steps}
use Rattle.goblin.proofs.AddressLemmas.{symbol_at_comes_first}
use Rattle.goblin.proofs.elf.sym.addresses.Goals as goal

pub returns : goal.returns
returns c = record {
  first = symbol_at_comes_first;
  has_place = grind (arith, common_steps);
  reaches = grind (arith, common_steps);
}
