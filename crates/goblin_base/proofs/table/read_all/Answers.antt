-- After i turns the vector has the first i records, and the room of those that are left decides for all (`ReadSoFar`).
-- So the loop ends with all records (`all_read`), and a record that doesn't lie in the bytes is the first that doesn't,
-- whose error the definition gives (`no_room`).
use Rattle.goblin_base.proofs.Common.{rules, arith}
use Rattle.goblin_base.proofs.Eager.{none_read, next_read, all_read, no_room}
use Rattle.goblin_base.proofs.table.read_all.Goals as goal

pub each-init : goal.each-init
each-init g c = rw c.in_ok-all.ensures.items none_read

pub each-preserved : goal.each-preserved
each-preserved g c =
    rw c.in_ok-push.ensures.items
    (next_read c.each.invariant c.size_with-size.ensures c.each-test.true c.in_ok-read_at.ensures.value)

pub returns-in_err-read_at-clause-given : goal.returns-in_err-read_at-clause-given
returns-in_err-read_at-clause-given g c =
    let is = no_room c.args.items.now c.each.invariant c.size_with-size.ensures c.each-test.true c.if-count-bytes.false
    c.in_err-read_at.ensures.value in
    search (rules, is)

pub returns-clause-given : goal.returns-clause-given
returns-clause-given g c =
    all_read c.args.items.now c.each.invariant c.size_with-size.ensures (omega arith) c.if-count-bytes.false
