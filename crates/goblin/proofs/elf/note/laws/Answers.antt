use Rattle.goblin.specs.NoteLaws.{whole_is_note}
use Rattle.goblin.proofs.elf.note.laws.Goals as goal

pub returns-clause-whole : goal.returns-clause-whole
returns-clause-whole c = whole_is_note
