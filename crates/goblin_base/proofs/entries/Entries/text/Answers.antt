use Rattle.goblin_base.proofs.Common.{◌∙◌}
use Rattle.goblin_base.proofs.EntriesLemmas.{entry_between}
use Rattle.goblin_base.proofs.entries.Entries.text.Goals as goal

pub text_before-requires : goal.text_before-requires
text_before-requires c =
    let s = c.self.inside in
    (entry_between s.bytes.now s.places.items c.deref.result.now s.closing c.args.i _ _ c.args.self.now c.self.view_is
    c.deref.ensures.value c.ends-from.ensures.from c.ends-from.ensures.next c.self.invariant c.requires).0

pub returns : goal.returns
returns c =
    let s = c.self.inside in
    c.text_before.ensures
    ∙ (entry_between s.bytes.now s.places.items c.deref.result.now s.closing c.args.i _ _ c.args.self.now c.self.view_is
    c.deref.ensures.value c.ends-from.ensures.from c.ends-from.ensures.next c.self.invariant c.requires).1
