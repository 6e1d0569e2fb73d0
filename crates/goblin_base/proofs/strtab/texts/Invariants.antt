use Rattle.goblin_base.proofs.Common.{◌≡◌, map, take, text_of}
use Rattle.goblin_base.proofs.strtab.texts.Given as goal

abbrev pub invariant-loop-i : goal.invariant-loop-i
invariant-loop-i l = map (λ text. text.now) l.texts.items ≡ map text_of (take l.i l.entries)
