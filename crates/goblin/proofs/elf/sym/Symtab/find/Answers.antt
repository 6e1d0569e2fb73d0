use Rattle.std.proofs.Common.{rules}
use Rattle.std.proofs.lemmas.Iterator.Consumers.{YieldsList-from_first}
use Rattle.std.proofs.lemmas.Iterator.Search.{position_from_yields_List}
use Rattle.goblin.proofs.elf.sym.Symtab.find.Goals as goal

pub returns : goal.returns
returns c =
    position_from_yields_List _ _ _ c.position.result c.position.ensures.ran
    (YieldsList-from_first (λ x. x) (λ left. left) _ c.iter.ensures.value) (λ x b q k. search rules)
