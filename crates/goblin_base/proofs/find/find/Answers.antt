-- Places rise, so what is known of the place that was read holds for all on that side of it: the places before `low`
-- and those from `low + size` on are known. Each turn takes one binary digit off `size`, which bounds the reads from
-- both sides.
use Rattle.goblin_base.proofs.Common.{◌≡◌, ℕ, ◌+◌, ◌-◌, ◌/◌, ◌<◌, ◌≤◌, ⊎_elim, List, length, slice_index, ap, ◌∙◌}
use Rattle.goblin_base.proofs.Common.{arith, cases_lt, cond-true, cond-false, le-leb, lt-leb, IsRising}
use Rattle.goblin_base.specs.Search.{digits}
use Rattle.goblin_base.proofs.DigitsLemmas.{digits_step, digits_step_back}
use Rattle.goblin_base.proofs.find.find.Goals as goal

read_in : (ps qs : List ℕ) (m place : ℕ) → place ≡ slice_index ps m → ps ≡ qs → place ≡ slice_index qs m
read_in ps qs m place is same = is ∙ ap (λ l. slice_index l m) same

-- what is known of a place that was read holds for all places on that side of it
to_the_left : (ps : List ℕ) (m o place : ℕ)
    → IsRising ps → place ≡ slice_index ps m → place ≤ o → m < length ps
    → (k : ℕ) → k < m + 1 → slice_index ps k ≤ o
to_the_left ps m o place rising is here within k h =
    ⊎_elim (λ (l : k < m). omega (arith, rising k m l within)) (λ (l : m ≤ k). grind arith) (cases_lt k m)

to_the_right : (ps : List ℕ) (m o place : ℕ)
    → IsRising ps → place ≡ slice_index ps m → o < place
    → (k : ℕ) → m ≤ k → k < length ps → o < slice_index ps k
to_the_right ps m o place rising is here k h within =
    ⊎_elim (λ (l : m < k). omega (arith, rising m k l within)) (λ (l : k ≤ m). grind arith) (cases_lt m k)

-- one more place is read, and at most half of them are left
at_most : (next half count size start all : ℕ)
    → count + digits size ≤ start + digits all → next ≤ count + 1 → 0 < size → half ≤ size / 2
    → next + digits half ≤ start + digits all
at_most next half count size start all most one some less = omega (arith, digits_step size half some less)

-- and at least half of them
at_least : (next half count size least : ℕ)
    → least ≤ count + digits (size + 1) → ((d : ℕ) → least ≤ count + d → least ≤ next + (d - 1)) → size / 2 ≤ half
    → least ≤ next + digits (half + 1)
at_least next half count size least before one more =
    omega (arith, one (digits (size + 1)) before, digits_step_back (size + 1) (half + 1) (omega arith))

pub loop-size-preserved : goal.loop-size-preserved
loop-size-preserved c =
    let s = c.loop-size in
    let ps = c.args.view.now.places in
    let place = c.at.result in
    let n = ap (λ v. v.count) c.at.ensures.counted in
    let here = read_in _ _ _ _ c.at.ensures.value s.invariant.same in
    let moved = c.step_past-low.ensures in
    ⊎_elim
    (λ (l : c.args.offset < place).
    let stays : c.step_past-low.result ≡ 0 = moved ∙ cond-false _ _ _ (lt-leb place c.args.offset l) in
    record {
      same = c.at.ensures.unchanged ∙ s.invariant.same;
      within = omega arith;
      before = λ k h. s.invariant.before k (omega arith);
      after = λ k h w. to_the_right ps _ c.args.offset place c.len-size.ensures.rising here l k (omega arith) w;
      rising = omega arith;
      most = at_most _ _ _ s.size _ _ s.invariant.most (omega (arith, n)) (omega arith) (omega arith);
      least = at_least _ _ _ s.size _ s.invariant.least (λ d h. omega (arith, n, h)) (omega arith);
    })
    (λ (l : place ≤ c.args.offset).
    let goes : c.step_past-low.result ≡ _ = moved ∙ cond-true _ _ _ (le-leb place c.args.offset l) in
    record {
      same = c.at.ensures.unchanged ∙ s.invariant.same;
      within = omega arith;
      before = λ k h.
          to_the_left ps _ c.args.offset place c.len-size.ensures.rising here l (omega arith) k (omega arith);
      after = λ k h w. s.invariant.after k (omega arith) w;
      rising = omega arith;
      most = at_most _ _ _ s.size _ _ s.invariant.most (omega (arith, n)) (omega arith) (omega arith);
      least = at_least _ _ _ s.size _ s.invariant.least (λ d h. omega (arith, n, h)) (omega arith);
    })
    (cases_lt c.args.offset place)
