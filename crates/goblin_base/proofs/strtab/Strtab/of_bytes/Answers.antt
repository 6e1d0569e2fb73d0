use Rattle.goblin_base.proofs.Common.{ap, ◌∙◌, sym, walked}
use Rattle.goblin_base.proofs.StrtabLemmas.{walked_entries}
use Rattle.goblin_base.proofs.strtab.Strtab.of_bytes.Goals as goal

pub invariant_of-result : goal.invariant_of-result
invariant_of-result c =
    let same = ap (λ v. v.bytes) c.new.ensures in
    walked_entries c.args.mode c.args.bytes.now c.args.delim _
    (ap (λ bs. walked c.args.mode bs c.args.delim) (sym same) ∙ c.in_ok-entries.ensures.given)
