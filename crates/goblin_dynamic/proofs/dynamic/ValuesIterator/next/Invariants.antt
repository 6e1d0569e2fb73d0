use Rattle.std.proofs.Common.{◌≡◌, length}
use Rattle.goblin_dynamic.specs.Dynamic.{values_with}
use Rattle.goblin_dynamic.proofs.dynamic.ValuesIterator.next.Given as goal

abbrev pub invariant-loop-entry : goal.invariant-loop-entry
invariant-loop-entry l =
    values_with l.initial.self-inside.tag l.initial.self-inside.left
    ≡ values_with l.self-inside.tag l.self-inside.left

abbrev pub decreases-loop-entry : goal.decreases-loop-entry
decreases-loop-entry l = length l.self-inside.left
