-- The result follows from what holds at each byte (`IsScanned`): no delimiter was passed, and the piece is UTF-8
-- exactly if its rest completes the state. At the delimiter or at the end the rest is empty, so the state decides
-- (`scan_ends`). A byte that may not come there excludes each start up to it (`scan_faults`). A look changes the count
-- only, so the view's bytes are those of the call (`same`).
use Rattle.goblin_base.proofs.Common.{◌≡◌, ◌+◌, max, length, get_or, slice_index, false, eqb, sym, ap, subst, ◌∙◌, refl}
use Rattle.goblin_base.proofs.Common.{arith, eq-eqb, after_byte, IsScan, Fault}
use Rattle.std.proofs.lemmas.Bool.{ne_eqb}
use Rattle.goblin_base.proofs.ScanLemmas.{scan_starts, scan_steps, scan_faults, scan_ends}
use Rattle.goblin_base.proofs.walk.scan.Goals as goal

pub loop-at-init : goal.loop-at-init
loop-at-init c = record {
  same = refl;
  looks = omega arith;
  rising = omega arith;
  least = omega arith;
  scanned = rw c.first-awaited.ensures (scan_starts c.args.view.now.bytes c.args.delim c.args.from (omega arith));
}

pub returns-then-byte-delim-clause-value : goal.returns-then-byte-delim-clause-value
returns-then-byte-delim-clause-value c =
    let i = c.loop-at.invariant in
    let byte : c.at-byte.result ≡ get_or c.args.view.now.bytes c.loop-at.at 0 =
    c.at-byte.ensures.value ∙ ap (λ bs. slice_index bs c.loop-at.at) i.same in
    rw c.ended.ensures
    (scan_ends (λ _. eq-eqb _ _ (sym byte ∙ c.if-byte-delim.true)) i.scanned)

pub returns-in-None-clause-value : goal.returns-in-None-clause-value
returns-in-None-clause-value c =
    let i = c.loop-at.invariant in
    let byte : c.at-byte.result ≡ get_or c.args.view.now.bytes c.loop-at.at 0 =
    c.at-byte.ensures.value ∙ ap (λ bs. slice_index bs c.loop-at.at) i.same in
    let test : eqb (get_or c.args.view.now.bytes c.loop-at.at 0) c.args.delim ≡ false =
    ne_eqb _ _ (λ (e : get_or c.args.view.now.bytes c.loop-at.at 0 ≡ c.args.delim). c.if-byte-delim.false (byte ∙ e)) in
    let next : max c.loop-at.at (c.args.from + 1) ≡ c.max.result = omega (arith, c.max.ensures) in
    subst (λ k. IsScan c.args.view.now.bytes c.args.delim c.args.from (Fault k)) next
    (scan_faults (omega (arith, ap length i.same)) test
    (ap (after_byte c.loop-at.awaited) (sym byte) ∙ sym c.in-None.ensures) i.scanned)

pub loop-at-preserved : goal.loop-at-preserved
loop-at-preserved c =
    let i = c.loop-at.invariant in
    let byte : c.at-byte.result ≡ get_or c.args.view.now.bytes c.loop-at.at 0 =
    c.at-byte.ensures.value ∙ ap (λ bs. slice_index bs c.loop-at.at) i.same in
    let test : eqb (get_or c.args.view.now.bytes c.loop-at.at 0) c.args.delim ≡ false =
    ne_eqb _ _ (λ (e : get_or c.args.view.now.bytes c.loop-at.at 0 ≡ c.args.delim). c.if-byte-delim.false (byte ∙ e)) in
    record {
      same = ap (λ v. v.bytes) c.at-byte.ensures.counted ∙ i.same;
      looks = omega (arith, ap (λ v. v.count) c.at-byte.ensures.counted, i.scanned.from);
      rising = omega (arith, c.at-byte.ensures.rising, i.rising);
      least = omega (arith, ap (λ v. v.count) c.at-byte.ensures.counted, i.scanned.from, i.least);
      scanned = scan_steps (omega (arith, ap length i.same)) test
          (ap (after_byte c.loop-at.awaited) (sym byte) ∙ sym c.in-Some.ensures) i.scanned;
    }

pub returns-clause-value : goal.returns-clause-value
returns-clause-value c =
    let i = c.loop-at.invariant in
    rw c.ended-2.ensures
    (scan_ends (λ h. absurd (omega (arith, ap length i.same, h))) i.scanned)
