-- If the bytes don't hold the first header, the list and its tests are refused with that error (`first_refused`,
-- `first_tested`). Otherwise the list is that of the records that were asked for (`from_is`), as `read_all` reads it,
-- and the only test that is left is whether the bytes could hold so many (`all_tested`).
use Rattle.goblin_headers.proofs.Common.{rules, sym, subst, ap, ◌∙◌, Ok, arith, Gives}
use Rattle.goblin_headers.proofs.WholeParts.{first_refused, first_tested, from_is, all_tested}
use Rattle.goblin_headers.proofs.section_header.SectionHeader.parse_from.Goals as goal

pub returns-in_err-asked : goal.returns-in_err-asked
returns-in_err-asked c =
    let refused =
    first_refused c.args.bytes.now c.args.offset c.args.count c.args.ctx c.in_err-asked.field-0.0
    c.in_err-asked.ensures in
    let tested =
    first_tested c.args.bytes.now c.args.offset c.args.count c.args.ctx c.in_err-asked.field-0.0
    c.in_err-asked.ensures in
    record { given = search (rules, refused); tested = search (rules, tested) }

pub returns-clause-given : goal.returns-clause-given
returns-clause-given c =
    subst (Gives (λ v. v.items) c.read_all.result)
    (sym
    (from_is c.args.bytes.now c.args.offset c.args.count c.args.ctx _ (ap Ok (omega arith) ∙ c.in_ok-asked.ensures)))
    c.read_all.ensures.given

pub returns-clause-tested : goal.returns-clause-tested
returns-clause-tested c =
    all_tested c.args.bytes.now c.args.offset c.args.count c.args.ctx _ (ap Ok (omega arith) ∙ c.in_ok-asked.ensures)
    c.read_all.result c.read_all.ensures.too_many
