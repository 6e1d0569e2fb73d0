-- The looks for a text that is shown are those of its string tables and its names: the header and each section have a
-- line, and the looks of a line are enough for one table and one name.
use Rattle.goblin_text.proofs.Common.{◌≡◌, ◌+◌, ◌*◌, arith, length, common_steps, parts_text}
use Rattle.goblin_text.proofs.LineLooks.{looks_shown}
use Rattle.goblin_text.specs.Looks.{LooksAtMost, names_looks, table_looks}
use Rattle.goblin_text.proofs.run.show_file.Goals as goal

pub returns-in-Ok-write_text-clause-looks_shown : goal.returns-in-Ok-write_text-clause-looks_shown
returns-in-Ok-write_text-clause-looks_shown g c = λ short text done is.
    let old = c.args.file.now in
    let file = c.in-Ok.accepted in
    let all : text ≡ parts_text old.bytes file.header file.sections.items file.parts =
    grind (arith, common_steps, is) in
    let tables : LooksAtMost old c.accept.new.file (table_looks * (length file.sections.items + 1)) =
    omega (arith, c.in-Ok.ensures.reading.looks short, c.in-Ok.ensures.sections) in
    let names : LooksAtMost c.accept.new.file c.write_text.new.names
    (names_looks (parts_text old.bytes file.header file.sections.items file.parts)) =
    grind (arith, common_steps, short) in
    looks_shown old c.accept.new.file c.write_text.new.names old.bytes file.header file.sections.items file.parts text
    all tables names

-- of a file of which no byte was looked at before, the same
pub returns-in-Ok-write_text-clause-most_shown : goal.returns-in-Ok-write_text-clause-most_shown
returns-in-Ok-write_text-clause-most_shown g c = λ short unread text done is.
    omega (arith, returns-in-Ok-write_text-clause-looks_shown g c short text done is, unread.none, unread.left)
