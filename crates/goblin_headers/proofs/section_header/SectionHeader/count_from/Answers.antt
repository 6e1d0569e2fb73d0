use Rattle.goblin_headers.proofs.Common.{◌≡◌, ◌==◌, true, arith, nat_tests}
use Rattle.goblin_headers.proofs.WholeParts.{first_counts}
use Rattle.goblin_headers.proofs.section_header.SectionHeader.count_from.Goals as goal

pub returns : goal.returns
returns c =
    let none : (c.args.count == 0) ≡ true = grind (arith, nat_tests) in
    first_counts c.args.bytes.now c.args.offset c.args.count c.args.ctx c.in_ok-first.first c.max.result
    c.in_ok-first.ensures.value (rw none c.max.ensures)
