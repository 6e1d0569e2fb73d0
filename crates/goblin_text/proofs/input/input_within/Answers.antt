-- The filled bytes are those that the reader returned, because each read fills the bytes right after them. If they are
-- more than the limit, the input is too long.
use Rattle.goblin_text.proofs.Common.{arith, common_steps, Consumes-kept, ◌≡◌, ◌+◌, ℕ, List, Option, take, drop}
use Rattle.goblin_text.proofs.Common.{Consumes-trans, take-add, Consumes}
use Rattle.goblin_text.proofs.input.input_within.Goals as goal

-- what was filled before and what was read after it is what was taken in all
Consumes-after : (a b c : Option (List ℕ)) (old new : List ℕ) (filled count : ℕ) → take filled new ≡ take filled old
    → Consumes a b (take filled old)
    → Consumes b c (take count (drop filled new)) → Consumes a c (take (filled + count) new)
Consumes-after a b c old new filled count kept before after =
    rw (take-add filled count new, kept) (Consumes-trans a b c _ _ before after)

pub returns-then-filled-gt-INPUT_LIMIT-clause-input : goal.returns-then-filled-gt-INPUT_LIMIT-clause-input
returns-then-filled-gt-INPUT_LIMIT-clause-input g c =
    let taken = Consumes-after _ _ _ c.loop.bytes.items _ c.loop.filled c.in-Ok.count (grind (arith, common_steps))
    c.loop.invariant.taken c.in-Ok.ensures.bytes.0 in
    (_, record { taken = taken; long = grind (arith, common_steps) })

pub returns-then-filled-gt-INPUT_LIMIT-clause-most : goal.returns-then-filled-gt-INPUT_LIMIT-clause-most
returns-then-filled-gt-INPUT_LIMIT-clause-most g c =
    let taken = Consumes-after _ _ _ c.loop.bytes.items _ c.loop.filled c.in-Ok.count (grind (arith, common_steps))
    c.loop.invariant.taken c.in-Ok.ensures.bytes.0 in
    (_, taken, grind (arith, common_steps))

pub returns-in-Ok-eq0-clause-input : goal.returns-in-Ok-eq0-clause-input
returns-in-Ok-eq0-clause-input g c = grind (arith, common_steps)

pub loop-preserved : goal.loop-preserved
loop-preserved g c = grind (arith, common_steps, Consumes-after, Consumes-kept)

pub returns-then-is_err-clause-input : goal.returns-then-is_err-clause-input
returns-then-is_err-clause-input g c = record {
  taken = (_, c.loop.invariant.taken, grind (arith, common_steps));
  endless = grind (arith, common_steps);
  calls = grind (arith, common_steps);
}
