-- The definition's look-up is the rest of the last entry at or before the offset (`look_up_among`). There is such an
-- entry, because the first one begins at 0 (`look_up_some`): so the search never fails at an offset of the table. That
-- the stored entries are those of the bytes is the table's invariant.
use Rattle.goblin_base.proofs.Common.{◌≡◌, ◌<◌, ap, sym, subst, arith, entries, slice_index, EachIndex, IfSome}
use Rattle.goblin_base.proofs.Common.{IsLastUpTo}
use Rattle.goblin_base.proofs.StrtabLemmas.{look_up_some, look_up_among}
use Rattle.goblin_base.proofs.strtab.Strtab.get_at.Goals as goal

pub returns-in_err-k : goal.returns-in_err-k
returns-in_err-k c =
    let s = c.self.inside in
    let found = c.in_ok-entries.ensures in
    let walked : c.in_ok-entries.entries.now ≡ entries s.bytes.now s.delim =
    subst (λ o. IfSome o (λ es. es ≡ entries s.bytes.now s.delim)) (sym found.value) c.self.invariant in
    absurd (look_up_some s.bytes.now s.delim _ c.args.self.now _ c.args.offset c.self.view_is (sym found.variant) walked
    (omega arith)
    (subst (λ ps. EachIndex ps (λ k. c.args.offset < slice_index ps k)) (ap (λ p. p.places) c.of-probes.ensures)
    c.in_err-k.ensures.value))

pub returns : goal.returns
returns c =
    let s = c.self.inside in
    let k = c.in_ok-k.k in
    let place = c.in_ok-k.place in
    let found = c.in_ok-entries.ensures in
    let walked : c.in_ok-entries.entries.now ≡ entries s.bytes.now s.delim =
    subst (λ o. IfSome o (λ es. es ≡ entries s.bytes.now s.delim)) (sym found.value) c.self.invariant in
    look_up_among s.bytes.now s.delim _ c.args.self.now _ c.args.offset c.self.view_is (sym found.variant) walked
    (omega arith) k place _ c.text.result.now c.rest_of.result
    (subst (λ ps. IsLastUpTo ps c.args.offset k × (place ≡ slice_index ps k)) (ap (λ p. p.places) c.of-probes.ensures)
    c.in_ok-k.ensures.value) c.text.ensures c.rest_of.ensures (omega arith)
