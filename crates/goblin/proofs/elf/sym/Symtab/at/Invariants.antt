use Rattle.goblin.proofs.AddressLemmas.{IsFound}
use Rattle.goblin.proofs.elf.sym.Symtab.at.Given as goal

abbrev pub invariant-loop-i : goal.invariant-loop-i
invariant-loop-i l = IsFound l.address l.sections l.e_type l.self.symbols l.i l.found
