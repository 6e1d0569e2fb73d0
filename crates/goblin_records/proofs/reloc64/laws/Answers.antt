use Rattle.goblin_records.specs.RelocInfoLaws.{mips64el_inverse}
use Rattle.goblin_records.proofs.reloc64.laws.Goals as goal

pub returns-clause-inverse : goal.returns-clause-inverse
returns-clause-inverse c = mips64el_inverse
