-- If `e_phnum` is the escape, the number is that of section 0: the first header, read from its own bytes alone
-- (`same_first`), or the fault of it.
use Rattle.goblin_headers.proofs.Common.{length, rules, take, drop, unless_fault-err, room_of, section_header_of}
use Rattle.goblin_headers.proofs.Common.{section_header_size}
use Rattle.goblin_headers.proofs.WholeParts.{same_first}
use Rattle.goblin_headers.proofs.program_header.ProgramHeader.count_in.Goals as goal

pub returns-in_err-first : goal.returns-in_err-first
returns-in_err-first c =
    let ctx = c.args.ctx in
    let size = section_header_size ctx.container in
    let fault = unless_fault-err (room_of (length c.args.bytes.now) c.args.sections size) c.in_err-first.field-0.0
    (section_header_of ctx.container ctx.le (take size (drop c.args.sections c.args.bytes.now)))
    c.in_err-first.ensures.value in
    let room = fault.1 in
    let same = fault.2 in
    search (rules, room, same)

pub returns : goal.returns
returns c =
    let found =
    same_first c.args.bytes.now c.args.sections c.args.ctx c.in_ok-first.first c.in_ok-first.ensures.value in
    let room = found.0 in
    let same = found.1 in
    search (rules, room, same)
