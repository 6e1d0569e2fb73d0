-- Before the end of the bytes the definitions read the rest of the bytes, as the function does (`places_at-before`,
-- `note_at-read`). That the places lie inside the bytes is a law of the definition (`read-within`).
use Rattle.std.proofs.Common.{arith}
use Rattle.goblin.proofs.NoteLemmas.{places_at-before, note_at-read, read-within}
use Rattle.goblin.proofs.elf.note.Note.at.Goals as goal

pub returns-clause-places : goal.returns-clause-places
returns-clause-places c =
    rw (places_at-before c.args.bytes.now c.args.offset c.args.ctx (omega arith)) c.with_places.ensures.places

pub returns-clause-given : goal.returns-clause-given
returns-clause-given c =
    note_at-read c.with_places.result c.args.bytes.now c.args.offset c.args.ctx
    (record { places = returns-clause-places c; there = c.with_places.ensures.ok })

pub returns-clause-within : goal.returns-clause-within
returns-clause-within c =
    read-within c.with_places.result c.args.bytes.now c.args.offset c.args.ctx (returns-clause-places c)
