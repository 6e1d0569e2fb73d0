use Rattle.goblin_c.proofs.{Common.arith, StringLemmas.closed_there}
use Rattle.goblin_c.proofs.strings.closed_string_at.Goals as goal

pub returns : goal.returns
returns c =
    let strings = c.in_ok-strings in
    rw c.new.ensures
    (closed_there _ _ _ strings.strings.now _ strings.ensures.given (omega (arith, c.if-start-strings.false))
    c.piece_len-size.ensures c.if-size-strings.false)
