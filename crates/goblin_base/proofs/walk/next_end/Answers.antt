-- The lowest bit that is left of the delimiters' mask is at the first delimiter (`next_delim`): the piece ends there,
-- or, if no bit is left, none of the marked bytes is the delimiter and the search goes on after them. The bytes up to
-- there are ASCII exactly if the other mask's lowest bit comes no earlier (`ascii_more`).
use Rattle.goblin_base.proofs.Common.{◌≡◌, ℕ, ◌+◌, ◌-◌, ◌/◌, ◌^◌, ◌↔◌, subst, refl, sym, ap, ◌∙◌, List, true, arith}
use Rattle.goblin_base.proofs.Common.{lowest_set, AreAscii, AreMarks, piece_end}
use Rattle.goblin_base.proofs.PiecesLemmas.{end_is}
use Rattle.goblin_base.proofs.MarksLemmas.{next_delim, no_delim, ascii_more, end_later}
use Rattle.goblin_base.proofs.walk.next_end.Goals.{then-at-marks+else-len-left, else-at-marks}
use Rattle.goblin_base.proofs.walk.next_end.Goals as goal

-- no bytes are ASCII
nothing : (bytes : List ℕ) (at : ℕ) → (true ≡ true) ↔ AreAscii bytes at at
nothing bytes at = (λ _ k l r. absurd (omega arith), λ _. refl)

-- ---- the marks of before
pub returns-then-len-left-clause-value : goal.returns-then-len-left-clause-value
returns-then-len-left-clause-value c =
    let bytes = c.args.view.now.bytes in
    let d = c.args.delim in
    let m = c.args.marks.now in
    let at = c.args.from in
    let n = c.next_marked-len.result in
    let marks = c.requires.marked (omega arith) in
    let next = next_delim bytes d m at n 0 marks (omega arith) c.requires.near c.next_marked-len.ensures in
    let none = no_delim bytes d m at n 0 marks (omega arith) c.requires.near c.next_marked-len.ensures at
    (λ k l r. absurd (omega arith)) in
    sym (end_is bytes d at (at + n) (omega arith) (omega (arith, marks.within, next.within)) none
    (λ _. next.stops c.if-len-left.true))

pub returns-then-len-left-clause-ascii : goal.returns-then-len-left-clause-ascii
returns-then-len-left-clause-ascii c =
    let bytes = c.args.view.now.bytes in
    let at = c.args.from in
    let marks = c.requires.marked (omega arith) in
    ascii_more bytes c.args.delim c.args.marks.now at c.next_marked-len.result c.next_marked.result marks
    (omega arith) c.requires.near c.next_marked-len.ensures
    at true (omega arith) c.next_marked.ensures (nothing bytes at)

pub loop-at-init : goal.loop-at-init
loop-at-init c =
    let bytes = c.args.view.now.bytes in
    let d = c.args.delim in
    let m = c.args.marks.now in
    let from = c.args.from in
    elim c.if-at-marks.branch [
      | then-at-marks+else-len-left w ↦
          let n = w.next_marked-len.result in
          let marks = c.requires.marked (omega arith) in
          let next = next_delim bytes d m from n 0 marks (omega arith) c.requires.near w.next_marked-len.ensures in
          let all : c.if-at-marks.at ≡ from + n = omega (arith, w.at-is, next.within) in
          let more = ascii_more bytes d m from n w.next_marked.result marks
          (omega arith) c.requires.near w.next_marked-len.ensures from true (omega arith) w.next_marked.ensures
          (nothing bytes from) in
          record {
            same = refl;
            ordered = omega (arith, all);
            within = omega (arith, w.at-is, marks.within);
            past = omega (arith, w.at-is);
            marked = c.requires.marked;
            grows = omega arith;
            reach = omega (arith, w.at-is);
            none = λ k l r.
                no_delim bytes d m from n 0 marks (omega arith) c.requires.near w.next_marked-len.ensures from
                (λ i x y. absurd (omega arith)) k l (omega (arith, all));
            ascii = (
              λ t k l r. more.0 (sym w.is_ascii-is ∙ t) k l (omega (arith, all)),
              λ low. w.is_ascii-is ∙ more.1 (λ k l r. low k l (omega (arith, all))),
            );
            looks = omega arith;
            rising = omega arith;
            least = omega (arith, w.at-is);
          }
      | else-at-marks w ↦
          record {
            same = refl;
            ordered = omega (arith, w.at-is);
            within = omega (arith, w.at-is, c.requires.within);
            past = omega (arith, w.at-is);
            marked = c.requires.marked;
            grows = omega arith;
            reach = omega (arith, w.at-is);
            none = λ k l r. absurd (omega (arith, w.at-is));
            ascii = (λ t k l r. absurd (omega (arith, w.at-is)), λ _. w.is_ascii-is);
            looks = omega arith;
            rising = omega arith;
            least = omega (arith, w.at-is);
          }
    ]

-- ---- the marks of the next sixteen bytes
-- a search of all of them
of_all : (mask until at n : ℕ)
    → until ≡ at + 16 → n ≡ lowest_set (mask / 2 ^ (16 - 16)) 16
    → n ≡ lowest_set (mask / 2 ^ (16 - (until - at))) (until - at)
of_all mask until at n whole found = let e : 16 ≡ until - at = omega arith in
    found ∙ ap (λ left. lowest_set (mask / 2 ^ (16 - left)) left) e

pub returns-then-len-lt-LANES-clause-value : goal.returns-then-len-lt-LANES-clause-value
returns-then-len-lt-LANES-clause-value c =
    let s = c.loop-at.invariant in
    let bytes = c.args.view.now.bytes in
    let d = c.args.delim in
    let m = c.marks.result in
    let at = c.loop-at.at in
    let n = c.next_marked-len-in-loop-at.result in
    let whole = c.marks.ensures.until in
    let marks : AreMarks bytes d m = subst (λ bs. AreMarks bs d m) s.same c.marks.ensures.marked in
    let found = of_all m.delims m.until at n whole c.next_marked-len-in-loop-at.ensures in
    let next = next_delim bytes d m at n 0 marks (omega arith) (omega arith) found in
    let none = no_delim bytes d m at n 0 marks (omega arith) (omega arith) found c.args.from s.none in
    sym (end_is bytes d c.args.from (at + n) (omega (arith, s.ordered)) (omega (arith, marks.within, next.within)) none
    (λ _. next.stops (omega (arith, whole))))

pub returns-then-len-lt-LANES-clause-ascii : goal.returns-then-len-lt-LANES-clause-ascii
returns-then-len-lt-LANES-clause-ascii c =
    let s = c.loop-at.invariant in
    let bytes = c.args.view.now.bytes in
    let d = c.args.delim in
    let m = c.marks.result in
    let at = c.loop-at.at in
    let whole = c.marks.ensures.until in
    let marks : AreMarks bytes d m = subst (λ bs. AreMarks bs d m) s.same c.marks.ensures.marked in
    ascii_more bytes d m at c.next_marked-len-in-loop-at.result c.next_marked-in-loop-at.result marks (omega arith)
    (omega arith)
    (of_all m.delims m.until at _ whole c.next_marked-len-in-loop-at.ensures) c.args.from c.loop-at.is_ascii s.ordered
    (of_all m.highs m.until at _ whole c.next_marked-in-loop-at.ensures) s.ascii

pub loop-at-preserved : goal.loop-at-preserved
loop-at-preserved c =
    let s = c.loop-at.invariant in
    let bytes = c.args.view.now.bytes in
    let d = c.args.delim in
    let m = c.marks.result in
    let at = c.loop-at.at in
    let n = c.next_marked-len-in-loop-at.result in
    let whole = c.marks.ensures.until in
    let count = ap (λ v. v.count) c.marks.ensures.counted in
    let marks : AreMarks bytes d m = subst (λ bs. AreMarks bs d m) s.same c.marks.ensures.marked in
    let found = of_all m.delims m.until at n whole c.next_marked-len-in-loop-at.ensures in
    let next = next_delim bytes d m at n 0 marks (omega arith) (omega arith) found in
    let all : n ≡ 16 = omega (arith, whole, next.within) in
    let more = ascii_more bytes d m at n c.next_marked-in-loop-at.result marks (omega arith)
    (omega arith) found c.args.from c.loop-at.is_ascii s.ordered
    (of_all m.highs m.until at _ whole c.next_marked-in-loop-at.ensures) s.ascii in
    record {
      same = c.marks.ensures.unchanged ∙ s.same;
      ordered = omega (arith, s.ordered);
      within = omega (arith, whole, marks.within);
      past = omega (arith, whole);
      marked = λ _. marks;
      grows = omega (arith, whole, s.grows, s.past);
      reach = omega (arith, s.reach);
      none = λ k l r.
          no_delim bytes d m at n 0 marks (omega arith) (omega arith) found c.args.from s.none k l (omega (arith, all));
      ascii = (λ t k l r. more.0 t k l (omega (arith, all)), λ low. more.1 (λ k l r. low k l (omega (arith, all))));
      looks = omega (arith, count, s.reach, s.looks);
      rising = omega (arith, count, s.rising);
      least = omega (arith, count, s.reach, s.least);
    }

pub returns-clause-value : goal.returns-clause-value
returns-clause-value c =
    let s = c.loop-at.invariant in
    let bytes = c.args.view.now.bytes in
    let d = c.args.delim in
    c.end_by_bytes-end.ensures.value
    ∙ ap (λ bs. piece_end bs d c.loop-at.at) s.same
    ∙ end_later bytes c.args.from c.loop-at.at d s.ordered s.within s.none
