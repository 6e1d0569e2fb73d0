-- The zero byte is written after the library's text (`laid-part`), and after the number and the offset, if there are
-- some.
use Rattle.goblin_base.specs.Texts.{facts_of, facts_text}
use Rattle.goblin_c.proofs.BufferLemmas.{laid-part}
use Rattle.goblin_c.proofs.texts.write_report.Goals.{else-is_misfit, then-is_misfit}
use Rattle.goblin_c.specs.Texts.{misfit_text, with_misfit}
use Rattle.std.proofs.Common.{[], length-append, refl, ◌++◌, ◌∷◌, ◌≡◌}
use Rattle.goblin_c.proofs.texts.write_report.Goals as goal

pub returns : goal.returns
returns c =
    let text = facts_text (facts_of c.args.report.now) in
    let part = misfit_text c.args.why.now in
    let all = with_misfit c.args.why.now text in
    let last = laid-part all (0 ∷ []) c.args.buffer.now in
    elim c.if-is_misfit.branch [
      | then-is_misfit w ↦
          let is : all ≡ text ++ part = rw (← w.if-is_misfit.ensures) refl in
          let both = laid-part text part c.args.buffer.now in
          let long = length-append text part in
          (cc, cc)
      | else-is_misfit w ↦
          let is : all ≡ text = rw (← w.if-is_misfit.ensures) refl in
          (cc, cc)
    ]
