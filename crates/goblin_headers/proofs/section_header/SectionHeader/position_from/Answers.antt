use Rattle.goblin_headers.proofs.Common.{rules, ◌∙◌, YieldsList-from_first, position_from_yields_List, has_name}
use Rattle.std.proofs.lemmas.Iterator.Adapters.{YieldsList-from_skip}
use Rattle.goblin_headers.proofs.section_header.SectionHeader.position_from.Goals as goal

pub returns-clause-value : goal.returns-clause-value
returns-clause-value c =
    let rest = YieldsList-from_skip c.args.first
    (YieldsList-from_first (λ x. x) (λ left. left) c.args.sections.now (c.skip.ensures.source ∙ c.iter.ensures.value))
    c.skip.ensures.count in
    position_from_yields_List
    (λ section. has_name c.args.strings.now c.args.delim section.sh_name c.args.name.now) _ _
    c.position.result c.position.ensures.ran rest (λ x b q k. search rules)
