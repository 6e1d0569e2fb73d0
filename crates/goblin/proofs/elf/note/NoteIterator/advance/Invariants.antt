use Rattle.std.proofs.Common.{◌≡◌, ◌+◌, ◌-◌, drop, length, vec_capacity}
use Rattle.std.specs.Prelude.{flat_map}
use Rattle.goblin.specs.Notes.{items_left, most_left_in, spent}
use Rattle.goblin.proofs.elf.note.NoteIterator.advance.Given as goal

abbrev pub invariant-loop-self : goal.invariant-loop-self
invariant-loop-self l = record {
  memory : vec_capacity l.self.iters ≡ vec_capacity l.initial.self.iters;
  ranges : l.self.iters.items ≡ l.initial.self.iters.items;
  left : flat_map items_left (drop l.self.index l.self.iters.items)
      ≡ flat_map items_left (drop l.initial.self.index l.initial.self.iters.items);
  most : most_left_in (drop l.self.index l.self.iters.items)
      ≡ most_left_in (drop l.initial.self.index l.initial.self.iters.items);
  next : l.self.index + spent (drop l.self.index l.self.iters.items)
      ≡ l.initial.self.index + spent (drop l.initial.self.index l.initial.self.iters.items);
}

abbrev pub decreases-loop-self : goal.decreases-loop-self
decreases-loop-self l = length l.initial.self.iters.items - l.self.index
