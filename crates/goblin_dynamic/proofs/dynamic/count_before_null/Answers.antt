use Rattle.std.proofs.lemmas.Iterator.Consumers.{count_from_yields_List}
use Rattle.std.proofs.lemmas.Iterator.Search.{YieldsList-from_take_while}
use Rattle.goblin_dynamic.proofs.Common.{rules, ◌∙◌, YieldsList-from_first}
use Rattle.goblin_dynamic.proofs.dynamic.count_before_null.Goals as goal

pub returns : goal.returns
returns c =
    count_from_yields_List c.take_while.result _ c.count.ensures.ran
    (YieldsList-from_take_while _ _
    (YieldsList-from_first (λ x. x) (λ left. left) _ (c.take_while.ensures.source ∙ c.iter.ensures.value))
    c.take_while.ensures.closure c.take_while.ensures.done (λ x b q k. search rules))
