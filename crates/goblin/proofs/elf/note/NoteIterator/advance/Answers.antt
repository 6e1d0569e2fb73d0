-- A range that yields no item is skipped: it doesn't change, and the items that are left, their bound and the index of
-- the next one stay the same (`skipped`). So the first range that yields one is that with the next index (`next_is`),
-- and it is the only one that has moved (`moved`).
use Rattle.std.proofs.Common.{◌≡◌, ◌<◌, [], arith, drop, get_or, length, ◌∙◌}
use Rattle.goblin.specs.Notes.{index_of_next, items_left, spent}
use Rattle.goblin.proofs.NoteLemmas.{Skipped, unspent, moved, next_is, skipped}
use Rattle.goblin.proofs.elf.note.NoteIterator.advance.Goals as goal

pub returns-in-Some-clause-ranges : goal.returns-in-Some-clause-ranges
returns-in-Some-clause-ranges c =
    let old = c.args.self.now in
    let it = c.loop-self.self in
    let range = c.index_mut-range.result.now in
    let inside : it.index < length it.iters.items = omega arith in
    let there : range ≡ get_or it.iters.items it.index range = c.index_mut-range.ensures.value in
    let some : range.offset < range.size = unspent range _ _ c.in-Some.ensures.steps in
    let none_before : spent (drop it.index it.iters.items) ≡ 0 =
    next_is it.iters.items it.index range inside there some in
    let at : index_of_next old ≡ it.index = omega (arith, c.loop-self.invariant.next, none_before) in
    moved old.iters.items it.iters.items (index_of_next old) it.index range _
    c.loop-self.invariant.ranges inside there at c.in-Some.ensures.moves

pub loop-self-preserved : goal.loop-self-preserved
loop-self-preserved c =
    let it = c.loop-self.self in
    let so_far = c.loop-self.invariant in
    let range = c.index_mut-range.result.now in
    let inside : it.index < length it.iters.items = omega arith in
    let there : range ≡ get_or it.iters.items it.index range = c.index_mut-range.ensures.value in
    let none : items_left range ≡ [] = c.in_default.ensures.steps.0 in
    let skip : Skipped it.iters.items it.index range = skipped it.iters.items it.index range inside there none in
    let moves = c.in_default.ensures.moves in
    record {
      memory = so_far.memory;
      ranges = rw (moves, skip.ranges) so_far.ranges;
      left = rw (moves, skip.ranges) (skip.left ∙ so_far.left);
      most = rw (moves, skip.ranges) (skip.most ∙ so_far.most);
      next = rw (moves, skip.ranges) (skip.next ∙ so_far.next);
    }
