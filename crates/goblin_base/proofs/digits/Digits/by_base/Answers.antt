-- The digits of `left`, put before the digits that are written, are those of the number at each turn (`digits` of the
-- invariant): a turn moves one digit from the first to the second (`digits-more`). Twenty bytes are enough, because
-- `left` has at most `start + 1` digits (`short`, which a division keeps by `shorter`): where `start` is 0 it is a
-- single digit.
use Rattle.goblin_base.proofs.Common.{◌≡◌, ◌∙◌, ◌+◌, ◌-◌, ◌*◌, ◌/◌, ◌%◌, ◌<◌, ◌^◌, ◌∷◌, ℕ, drop, false, length, lit<}
use Rattle.goblin_base.proofs.Common.{refl, set, suc, subst, sym, ap, arith, length-set, one-mul, pow-suc, pow-zero}
use Rattle.goblin_base.proofs.Common.{drop-set, digit_glyph, digits, digits_onto, IsAscii}
use Rattle.goblin_base.proofs.GlyphLemmas.{digits-ascii, digits-last, digits-more, shorter}
use Rattle.goblin_base.proofs.digits.Digits.by_base.Goals.{then-loop-left-test+else-start-gt0, else-loop-left-test}
use Rattle.goblin_base.proofs.digits.Digits.by_base.Goals as goal

pub loop-left-init : goal.loop-left-init
unfolding digits
loop-left-init c = record { size = refl; room = lit< tt; short = omega arith; digits = refl }

pub loop-left-preserved : goal.loop-left-preserved
loop-left-preserved c =
    let l = c.loop-left in
    let base = c.args.base in
    let here : l.start < length l.bytes = omega (arith, l.invariant.size, l.invariant.room) in
    let place : l.start - 1 + 1 ≡ l.start = omega arith in
    let fuel : suc (l.start - 1 + 44) ≡ l.start + 44 = omega arith in
    let power : suc (l.start - 1) ≡ l.start = omega arith in
    let written : drop (l.start - 1 + 1) (set l.bytes l.start c.digit.result)
    ≡ digit_glyph false (l.left % base) ∷ drop (l.start + 1) l.bytes =
    ap (λ p. drop p (set l.bytes l.start c.digit.result)) place
    ∙ drop-set l.bytes l.start c.digit.result here
    ∙ ap (λ d. d ∷ drop (l.start + 1) l.bytes) c.digit.ensures in
    let low : l.left / base < base ^ l.start = shorter base l.left l.start c.requires.some l.invariant.short in
    record {
      size = omega (arith, l.invariant.size, length-set {A = ℕ});
      room = omega (arith, l.invariant.room);
      short = subst (λ k. l.left / base < base ^ k) (sym power) low;
      digits = ap (λ k.
          digits_onto k base false (l.left / base) (drop (l.start - 1 + 1) (set l.bytes l.start c.digit.result))) fuel
          ∙ ap (digits_onto (l.start + 44) base false (l.left / base)) written
          ∙ sym (digits-more base (l.start + 44) l.left
          (drop (l.start + 1) l.bytes) c.requires.some c.loop-left-test.true)
          ∙ l.invariant.digits;
    }

text : goal.returns-clause-value
text c =
    let l = c.loop-left in
    let base = c.args.base in
    let here : l.start < length l.bytes = omega (arith, l.invariant.size, l.invariant.room) in
    let one : base ^ 1 ≡ base = pow-suc base 0 ∙ ap (λ x. x * base) (pow-zero base) ∙ one-mul base in
    let last : l.left < base = elim c.loop-left-test.branch [
      | then-loop-left-test+else-start-gt0 w ↦ (let none : l.start ≡ 0 = omega (arith, w.if-start-gt0.false) in
          omega (arith, ap (λ s. base ^ (suc s)) none, one, l.invariant.short))
      | else-loop-left-test w ↦ omega (arith, w.loop-left-test.false)
    ] in
    rw (drop-set l.bytes l.start c.digit-2.result here, c.digit-2.ensures)
    (sym (digits-last base (l.start + 44) l.left (drop (l.start + 1) l.bytes) last) ∙ l.invariant.digits)

pub returns-clause-value : goal.returns-clause-value
returns-clause-value c = text c

pub returns-clause-ascii : goal.returns-clause-ascii
returns-clause-ascii c =
    subst IsAscii (sym (text c)) (digits-ascii c.args.base c.args.number c.requires.some c.requires.bound)
