-- A run of a range's notes yields the items that were left, in order. Callers of `count` cite this law.
use Rattle.std.proofs.Common.{ap, length}
use Rattle.std.specs.Iterator.Runs.{Run, YieldsRun, ItemsMapTo}
use Rattle.std.proofs.iter.runs.Sources.{from_front}
use Rattle.goblin.specs.Notes.{TakesNote, item_of, items_left}

pub notes_run : (p : Run TakesNote)
    → YieldsRun TakesNote p.from p.items p.whole p.at × ItemsMapTo p item_of (items_left p.from)
notes_run p = (p.gave, from_front TakesNote item_of items_left (λ s t h. ap length h.0.0) (λ s x t h. h.0) p p.seen)
