use Rattle.std.proofs.Common.{rules}
use Rattle.goblin_records.specs.RelocLaws.{whole_laws}
use Rattle.goblin_records.proofs.reloc.laws.Goals as goal

pub returns : goal.returns
returns c = search (rules, whole_laws)
