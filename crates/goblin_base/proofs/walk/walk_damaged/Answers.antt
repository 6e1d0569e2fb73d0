-- If an attempt succeeds, the rest of the piece is the next entry (`walked_text`). If it fails, no rest that begins
-- before `next` is UTF-8, and `next` is still in the piece, because the empty rest at `end` is UTF-8 (`attempt_fault`):
-- so each offset up to `next` has an entry with an empty text (`walked_empty`).
use Rattle.goblin_base.proofs.Common.{◌≡◌, ap, subst, sym, ◌∙◌, arith, piece_end, is_readable, IsWalkedTo}
use Rattle.goblin_base.proofs.EntriesLemmas.{walked_empty, walked_text}
use Rattle.goblin_base.proofs.ScanLemmas.{attempt_fault}
use Rattle.goblin_base.proofs.walk.walk_damaged.Goals as goal

pub returns-in-Whole-clause-ok : goal.returns-in-Whole-clause-ok
returns-in-Whole-clause-ok c =
    let s = c.loop-i.invariant in
    let found = c.in-Whole.ensures.value in
    let end : c.in-Whole.end ≡ piece_end c.args.view.now.bytes c.args.delim c.loop-i.i =
    found.ends ∙ ap (λ bs. piece_end bs c.args.delim c.loop-i.i) s.same in
    let text = ap (λ bs. is_readable bs c.args.delim c.loop-i.i) (sym s.same) ∙ found.readable in
    walked_text c.args.view.now.bytes c.args.delim _ _ c.loop-i.i c.in-Whole.end
    (omega (arith, c.requires.within)) found.ordered
    (omega (arith, end, s.ends, c.requires.within)) end text c.in_ok-push-in-Whole.ensures.items s.walked

pub returns-in_err-push-in-Fault-clause-looks : goal.returns-in_err-push-in-Fault-clause-looks
returns-in_err-push-in-Fault-clause-looks c =
    let s = c.loop-i.invariant in
    let found = attempt_fault c.args.delim s.same s.ends s.within c.requires.within c.in-Fault.ensures.value in
    omega (arith, found.0.further, found.1, c.in-Fault.ensures.looks, s.looks)

pub loop-place-preserved : goal.loop-place-preserved
loop-place-preserved c =
    let s = c.loop-i.invariant in
    let found = attempt_fault c.args.delim s.same s.ends s.within c.requires.within c.in-Fault.ensures.value in
    walked_empty c.args.view.now.bytes c.args.delim _ _ c.loop-place.place (omega (arith, found.1, c.requires.within))
    (found.0.none c.loop-place.place (omega arith) (omega arith)) c.in_ok-push-in-Fault.ensures.items
    c.loop-place.invariant

pub loop-i-preserved : goal.loop-i-preserved
loop-i-preserved c =
    let s = c.loop-i.invariant in
    let found = attempt_fault c.args.delim s.same s.ends s.within c.requires.within c.in-Fault.ensures.value in
    let e : c.loop-place.place ≡ c.in-Fault.next = omega (arith, found.0.further, found.1) in
    record {
      same = c.in-Fault.ensures.unchanged ∙ s.same;
      from = omega (arith, found.0.further, s.from);
      within = found.1;
      ends = found.2;
      walked = subst (IsWalkedTo c.args.view.now.bytes c.args.delim c.loop-place.places.items) e c.loop-place.invariant;
      looks = omega (arith, found.0.further, c.in-Fault.ensures.looks, s.looks);
      rising = omega (arith, c.in-Fault.ensures.rising, s.rising);
      least = omega (arith, found.0.further, s.from, c.in-Fault.ensures.looks_least, s.least);
    }
