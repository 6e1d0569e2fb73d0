use Rattle.goblin_base.proofs.Eager.{ReadSoFar}
use Rattle.goblin_base.proofs.table.read_all.Given as goal

abbrev pub invariant-each : goal.invariant-each
invariant-each g l =
    ReadSoFar (g.R.SizeWith.size_of l.ctx)
    (g.R.Record.read l.ctx) l.bytes l.offset l.count l.counter l.place l.all.items
