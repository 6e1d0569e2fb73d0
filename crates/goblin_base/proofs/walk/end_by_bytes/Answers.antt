use Rattle.goblin_base.proofs.Common.{◌≡◌, get_or, slice_index, length, sym, ap, ◌∙◌, arith, eq-eqb}
use Rattle.goblin_base.proofs.PiecesLemmas.{end_is}
use Rattle.goblin_base.proofs.walk.end_by_bytes.Goals as goal

pub returns-then-byte-delim-clause-value : goal.returns-then-byte-delim-clause-value
returns-then-byte-delim-clause-value c =
    let i = c.loop-end.invariant in
    let byte : c.at-byte.result ≡ get_or c.args.view.now.bytes c.loop-end.end 0 =
    c.at-byte.ensures.value ∙ ap (λ bs. slice_index bs c.loop-end.end) i.same in
    sym (end_is c.args.view.now.bytes c.args.delim c.args.from c.loop-end.end i.ordered i.within i.none
    (λ _. eq-eqb _ _ (sym byte ∙ c.if-byte-delim.true)))

pub returns-clause-value : goal.returns-clause-value
returns-clause-value c =
    let i = c.loop-end.invariant in
    sym (end_is c.args.view.now.bytes c.args.delim c.args.from c.loop-end.end i.ordered i.within i.none
    (λ h. absurd (omega (arith, ap length i.same))))
