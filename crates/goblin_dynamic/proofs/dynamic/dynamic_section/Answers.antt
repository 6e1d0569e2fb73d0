use Rattle.goblin_dynamic.proofs.Common.{rules, sym, ◌∙◌, YieldsList-from_first, find_from_yields_List, option_map_id}
use Rattle.goblin_dynamic.proofs.dynamic.dynamic_section.Goals as goal

pub returns : goal.returns
returns c =
    sym (option_map_id c.find.result) ∙ find_from_yields_List _ _ _ _ c.find.ensures.ran
    (YieldsList-from_first (λ x. x) (λ left. left) _ c.iter.ensures.value) (λ x b q k. search rules)
