-- A note is followed by the items from its end on (`note_items-note`).
use Rattle.std.proofs.Common.{arith}
use Rattle.goblin.proofs.NoteLemmas.{note_items-note}
use Rattle.goblin.proofs.elf.note.NoteDataIterator.advance.Goals as goal

pub returns-in-Ok-clause-steps : goal.returns-in-Ok-clause-steps
returns-in-Ok-clause-steps c =
    let it = c.args.self.now in
    note_items-note it.bytes.now it.size it.offset it.ctx _ (omega arith) c.in-Ok.ensures.given
