-- Each turn stores the entries that the definition has there: one for a piece that is text (`walked_text`), those of
-- `walk_damaged` for any other in permissive mode. In strict mode a piece that isn't text is the first such one,
-- because all before it are text (`strict`, `walked_fault`). A piece of ASCII is text (`no_fault`), so ASCII bytes
-- never reach these last two cases.
use Rattle.goblin_base.proofs.Common.{rules, ◌≡◌, ◌+◌, ◌-◌, ◌<◌, ◌≤◌, ℕ, List, false, true, length, slice_index, refl}
use Rattle.goblin_base.proofs.Common.{sym, ap, subst, ⊎_elim, ◌∙◌, Ok, Err, arith, both_ways, cases_lt, false≢true}
use Rattle.goblin_base.proofs.Common.{IsAscii, IsUtf8, slice_range, HaveMarks, piece_end, is_readable, walked}
use Rattle.goblin_base.proofs.Common.{invalid_utf8, take_all, IsTrue, entries_between, IsWalkedTo}
use Rattle.goblin_base.proofs.EntriesLemmas.{walked_none, walked_text}
use Rattle.goblin_base.proofs.MarksLemmas.{low_is_text}
use Rattle.goblin_base.proofs.WalkLemmas.{IsTextSoFar, readable_from_text, bad_from_fault, bad_here, text_so_far_none}
use Rattle.goblin_base.proofs.WalkLemmas.{text_so_far_more, nothing_passed, walked_fault, walked_all}
use Rattle.goblin_base.proofs.WalkLemmas.{strict_if_not_permissive, found_all}
use Rattle.goblin_base.proofs.PiecesLemmas.{end_within}
use Rattle.goblin_base.proofs.walk.walk.Goals as goal

-- what the test of the piece at i says of the bytes, which it didn't change
readable_here : (bytes seen then : List ℕ) (d i e : ℕ)
    → seen ≡ bytes → then ≡ seen → e ≡ piece_end seen d i → IsUtf8 (slice_range then i e)
    → (e ≡ piece_end bytes d i) × (is_readable bytes d i ≡ true)
readable_here bytes seen then d i e same unchanged is u =
    let end : e ≡ piece_end bytes d i = is ∙ ap (λ bs. piece_end bs d i) same in
    (end, readable_from_text bytes d i e end (subst (λ bs. IsUtf8 (slice_range bs i e)) (unchanged ∙ same) u))

-- a piece of ASCII is text
no_fault : (bytes seen then : List ℕ) (i e : ℕ)
    → seen ≡ bytes → then ≡ seen → (IsUtf8 (slice_range then i e) → IsTrue false) → IsAscii bytes → ⊥
no_fault bytes seen then i e same unchanged bad low =
    let text = low_is_text bytes i e (λ k l r. low k) in
    false≢true (bad (subst (λ bs. IsUtf8 (slice_range bs i e)) (sym (unchanged ∙ same)) text))

-- a piece that isn't text isn't empty
not_empty : (bytes : List ℕ) (i e : ℕ) → (IsUtf8 (slice_range bytes i e) → IsTrue false) → i < e
not_empty bytes i e bad = ⊎_elim (λ h. h)
    (λ (h : e ≤ i). absurd (false≢true (bad (low_is_text bytes i e (λ k l r. absurd (omega (arith, h, l, r)))))))
    (cases_lt i e)

-- the same places are walked to the same offset
ruleset kept = (rules, take_all)

of_same_places : {bytes places stored : List ℕ} {d i : ℕ}
    → IsWalkedTo bytes d places i → stored ≡ places → IsWalkedTo bytes d stored i
of_same_places {bytes = bytes} {d = d} {i = i} walked same = subst (λ p. IsWalkedTo bytes d p i) (sym same) walked

-- no piece ends before the first one
first_ends : (bytes : List ℕ) (d i e : ℕ)
    → (0 < i → piece_end bytes d 0 ≤ i) → i ≤ e → e ≡ piece_end bytes d i → piece_end bytes d 0 ≤ e
first_ends bytes d i e passed ordered is = grind arith

pub loop-i-init : goal.loop-i-init
loop-i-init c = let unread = c.default-marks.ensures.0 in record {
  same = refl;
  within = omega arith;
  walked = rw c.new-places.ensures.items (walked_none c.args.view.now.bytes c.args.delim);
  strict = λ _. text_so_far_none c.args.view.now.bytes c.args.delim;
  near = omega (arith, unread);
  marked = λ h. absurd (omega (arith, h, unread));
  looks = omega (arith, unread);
  ascii = λ _. omega (arith, unread);
  rising = omega arith;
  least = omega (arith, unread);
  passed = λ h. absurd (omega (arith, h));
}

pub returns-in_err-push-clause-first : goal.returns-in_err-push-clause-first
returns-in_err-push-clause-first c = λ m r.
    let s = c.loop-i.invariant in
    let e = c.next_end-end.ensures in
    let here = readable_here c.args.view.now.bytes _ _ c.args.delim c.loop-i.i _ s.same e.unchanged e.value
    (c.if-is_text.ensures.value.0 refl) in
    let none = nothing_passed c.args.view.now.bytes c.args.delim c.loop-i.i r (s.strict m) in
    absurd (both_ways _ r (ap (is_readable c.args.view.now.bytes c.args.delim) (sym none.0) ∙ here.1))

pub loop-i-preserved-then-is_text : goal.loop-i-preserved-then-is_text
loop-i-preserved-then-is_text c =
    let s = c.loop-i.invariant in
    let bytes = c.args.view.now.bytes in
    let d = c.args.delim in
    let i = c.loop-i.i in
    let e = c.next_end-end.ensures in
    let t = c.is_text.ensures in
    let size = ap length s.same in
    let here = readable_here bytes _ _ d i _ s.same e.unchanged e.value (c.if-is_text.ensures.value.0 refl) in
    let in_range : i < length bytes = omega (arith, size, c.len.ensures.value, c.loop-i-test.true) in
    record {
      same = t.unchanged ∙ e.unchanged ∙ s.same;
      within = omega (arith, e.within, size);
      walked = walked_text bytes d _ _ i c.next_end-end.result.0 in_range e.ordered
          (omega (arith, e.within, size)) here.0 here.1 c.in_ok-push.ensures.items s.walked;
      strict = λ m.
          subst (λ k. IsTextSoFar bytes d (k + 1)) (sym here.0)
          (text_so_far_more bytes d i in_range here.1 (s.strict m));
      near = omega (arith, e.near);
      marked = subst (λ bs. HaveMarks bs d c.next_end-end.new.marks) s.same e.marked;
      looks = omega (arith, t.looks, t.rising, e.grows, e.looks, e.within, e.ordered, s.looks, size);
      ascii = λ low.
          let seen = e.ascii.1 (λ k l r. subst (λ bs. slice_index bs k < 128) (sym s.same) (low k)) in
          omega (arith, t.looks_ascii seen, e.grows, e.looks, e.within, e.ordered, s.ascii low, size);
      rising = omega (arith, t.rising, e.rising, s.rising);
      least = omega (arith, t.looks, t.rising, e.grows, e.looks_least, e.within, e.ordered, s.least, size);
      passed = λ _. omega (arith, first_ends bytes d i _ s.passed e.ordered here.0);
    }

pub loop-i-preserved : goal.loop-i-preserved
loop-i-preserved c =
    let s = c.loop-i.invariant in
    let e = c.next_end-end.ensures in
    let walked : IsWalkedTo c.args.view.now.bytes c.args.delim c.walk_damaged.new.places.items c.in_ok-i.i =
    search rules in
    let some = not_empty _ c.loop-i.i c.next_end-end.result.0 c.if-is_text.ensures.value.1 in
    record {
      same = search rules;
      within = search rules;
      walked = of_same_places walked (search kept);
      strict = search rules;
      near = search rules;
      marked = subst (λ bs. HaveMarks bs c.args.delim c.next_end-end.new.marks) s.same e.marked;
      looks = search rules;
      ascii = λ low.
          absurd (no_fault c.args.view.now.bytes _ _ c.loop-i.i c.next_end-end.result.0 s.same e.unchanged
          c.if-is_text.ensures.value.1 low);
      rising = search rules;
      least = search rules;
      passed = λ _.
          let end = e.value ∙ ap (λ bs. piece_end bs c.args.delim c.loop-i.i) s.same in
          omega (
            arith,
            first_ends c.args.view.now.bytes c.args.delim c.loop-i.i _ s.passed e.ordered end,
            c.in_ok-i.ensures.ordered,
          );
    }

pub loop-i-smaller : goal.loop-i-smaller
loop-i-smaller c =
    let size = ap length c.loop-i.invariant.same in
    let some = not_empty _ c.loop-i.i c.next_end-end.result.0 c.if-is_text.ensures.value.1 in
    omega (arith, size, some, c.len.ensures.value, c.loop-i-test.true, c.in_ok-i.ensures.ordered)

pub returns-in_err-i-clause-looks_ascii : goal.returns-in_err-i-clause-looks_ascii
returns-in_err-i-clause-looks_ascii c = λ low.
    let s = c.loop-i.invariant in
    let e = c.next_end-end.ensures in
    absurd (no_fault c.args.view.now.bytes _ _ c.loop-i.i c.next_end-end.result.0 s.same e.unchanged
    c.if-is_text.ensures.value.1 low)

pub returns-else-is_permissive : goal.returns-else-is_permissive
returns-else-is_permissive c =
    let s = c.loop-i.invariant in
    let bytes = c.args.view.now.bytes in
    let d = c.args.delim in
    let i = c.loop-i.i in
    let e = c.next_end-end.ensures in
    let t = c.is_text.ensures in
    let size = ap length s.same in
    let end : c.next_end-end.result.0 ≡ piece_end bytes d i = e.value ∙ ap (λ bs. piece_end bs d i) s.same in
    let text = ap (λ bs. slice_range bs i c.next_end-end.result.0) (e.unchanged ∙ s.same) in
    let bad = bad_from_fault bytes d i _ end
    (λ u. false≢true (c.if-is_text.ensures.value.1 (subst IsUtf8 (sym text) u))) in
    let in_range : i < length bytes = omega (arith, size, c.len.ensures.value, c.loop-i-test.true) in
    let left : c.len-else-is_permissive.result ≡ length bytes =
    c.len-else-is_permissive.ensures.value ∙ ap length (t.unchanged ∙ e.unchanged ∙ s.same) in
    let strict = strict_if_not_permissive c.args.mode c.if-is_permissive.ensures.1 in
    let so_far = s.strict strict in
    record {
      given = λ _. ap (λ m. walked m bytes d) strict
          ∙ walked_fault bytes d i in_range bad so_far
          ∙ ap (λ k. Err (invalid_utf8 (k - i))) (sym left)
          ∙ ap Err (sym c.invalid_utf8.ensures);
      unchanged = search rules;
      looks = search rules;
      looks_ascii = λ low.
          absurd (no_fault bytes _ _ i c.next_end-end.result.0 s.same e.unchanged c.if-is_text.ensures.value.1 low);
      rising = search rules;
      looks_least = search rules;
      looks_first =
          omega (
            arith,
            first_ends bytes d i _ s.passed e.ordered end,
            t.looks,
            t.rising,
            e.grows,
            e.looks_least,
            e.within,
            e.ordered,
            s.least,
            size,
          );
      looks_least_refused = λ _.
          let here = ap (piece_end bytes d) (bad_here bytes d i in_range bad so_far) ∙ sym end in
          omega (arith, here, t.looks, t.rising, e.grows, e.looks_least, e.within, e.ordered, s.least, size);
      first = λ m r.
          let none = nothing_passed bytes d i r so_far in
          c.invalid_utf8.ensures ∙ ap invalid_utf8 (omega (arith, left, none.0));
      none = search rules;
    }

pub returns-clause-given : goal.returns-clause-given
returns-clause-given c =
    let i = c.loop-i.invariant in
    let past : length c.args.view.now.bytes ≤ c.loop-i.i =
    omega (arith, ap length i.same, c.len.ensures.value, c.loop-i-test.false) in
    walked_all c.args.view.now.bytes c.args.delim c.args.mode c.loop-i.i past i.strict
    ∙ ap Ok (sym
    (c.entries.ensures
    ∙ ap (λ bs. entries_between bs c.loop-i.places.items c.loop-i.i) i.same
    ∙ found_all c.args.view.now.bytes c.args.delim _ c.loop-i.i past i.walked.found))

pub returns-clause-first : goal.returns-clause-first
returns-clause-first c = λ m r.
    let i = c.loop-i.invariant in
    let past : length c.args.view.now.bytes ≤ c.loop-i.i =
    omega (arith, ap length i.same, c.len.ensures.value, c.loop-i-test.false) in
    let none = nothing_passed c.args.view.now.bytes c.args.delim c.loop-i.i r (i.strict m) in
    absurd (omega (arith, none.0, none.1))

pub returns-clause-looks_first : goal.returns-clause-looks_first
returns-clause-looks_first c =
    let i = c.loop-i.invariant in
    let past : length c.args.view.now.bytes ≤ c.loop-i.i =
    omega (arith, ap length i.same, c.len.ensures.value, c.loop-i-test.false) in
    omega (arith, end_within c.args.view.now.bytes c.args.delim 0 (omega arith), past, i.least)
