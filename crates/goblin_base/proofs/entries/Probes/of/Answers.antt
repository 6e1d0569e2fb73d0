use Rattle.goblin_base.proofs.Common.{sym, ap, subst, ◌∙◌, places_of, IsRising}
use Rattle.goblin_base.proofs.EntriesLemmas.{places_rise, places_between}
use Rattle.goblin_base.proofs.entries.Probes.of.Goals as goal

pub invariant_of-result : goal.invariant_of-result
invariant_of-result c =
    let s = c.entries.inside in
    let same = sym (places_between s.bytes.now s.places.items s.closing) ∙ ap places_of c.entries.view_is in
    subst IsRising same (places_rise s.bytes.now s.places.items s.closing c.entries.invariant)
