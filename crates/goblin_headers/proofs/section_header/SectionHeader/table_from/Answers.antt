use Rattle.goblin_headers.proofs.Common.{rules, sym, subst, Returns}
use Rattle.goblin_headers.proofs.WholeParts.{first_refused, from_is}
use Rattle.goblin_headers.proofs.section_header.SectionHeader.table_from.Goals as goal

pub returns-in_err-most : goal.returns-in_err-most
returns-in_err-most c =
    let refused =
    first_refused c.args.bytes.now c.args.offset c.args.count c.args.ctx c.in_err-most.field-0.0
    c.in_err-most.ensures in
    search (rules, refused)

pub returns : goal.returns
returns c =
    subst (Returns (λ table. table) c.counted.result)
    (sym (from_is c.args.bytes.now c.args.offset c.args.count c.args.ctx c.in_ok-most.most c.in_ok-most.ensures))
    c.counted.ensures
