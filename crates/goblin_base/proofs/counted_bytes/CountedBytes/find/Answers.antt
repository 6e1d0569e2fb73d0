-- The offset at which the loop ends is that of the first byte that is equal: none before it is.
use Rattle.goblin_base.proofs.Common.{◌≡◌, get_or, sym, ap, ◌∙◌, arith, slice_index, eq-eqb}
use Rattle.goblin_base.proofs.FirstLemmas.{found}
use Rattle.goblin_base.proofs.counted_bytes.CountedBytes.find.Goals as goal

pub returns-then-at-byte-clause-value : goal.returns-then-at-byte-clause-value
returns-then-at-byte-clause-value c =
    let i = c.loop-at.invariant in
    let bytes = c.args.self.now.bytes in
    let byte : c.at.result ≡ get_or bytes c.loop-at.at 0 =
    c.at.ensures.value ∙ ap (λ bs. slice_index bs c.loop-at.at) i.same in
    found bytes c.args.byte c.args.from c.args.to c.loop-at.at i.ordered i.within c.requires.within i.none
    (λ _. eq-eqb _ _ (sym byte ∙ c.if-at-byte.true))

pub returns-clause-value : goal.returns-clause-value
returns-clause-value c =
    let i = c.loop-at.invariant in
    found c.args.self.now.bytes c.args.byte c.args.from c.args.to c.loop-at.at i.ordered i.within c.requires.within
    i.none
    (λ h. absurd (omega (arith, h)))
