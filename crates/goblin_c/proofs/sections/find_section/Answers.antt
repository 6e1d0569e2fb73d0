use Rattle.goblin_c.proofs.Common.{YieldsList-from_first, YieldsList-from_skip, position_from_yields_List, rules, ◌∙◌}
use Rattle.goblin_c.proofs.sections.find_section.Goals as goal

pub returns-clause-value : goal.returns-clause-value
returns-clause-value c =
    let is = c.skip.ensures.source ∙ c.iter.ensures.value in
    let all = YieldsList-from_first (λ x. x) (λ left. left) c.args.sections.now is in
    let rest = YieldsList-from_skip c.args.first all c.skip.ensures.count in
    position_from_yields_List _ _ _ c.position.result c.position.ensures.ran rest (λ x b q k. search rules)
