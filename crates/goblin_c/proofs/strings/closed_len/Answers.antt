-- The bytes from the last zero byte so far on are no zero bytes, and don't count (`closed_shorter`).
use Rattle.goblin_c.proofs.Common.{ap, arith, closed_len, length, sym, take_all, ◌∙◌}
use Rattle.goblin_c.proofs.StringLemmas.{closed_shorter, closed_whole}
use Rattle.goblin_c.proofs.strings.closed_len.Goals as goal

pub loop-len-init : goal.loop-len-init
loop-len-init c =
    let bytes = c.args.strings.now in
    (omega arith, ap closed_len (sym (take_all (length bytes) bytes (omega arith))))

pub loop-len-preserved : goal.loop-len-preserved
loop-len-preserved c =
    let l = c.loop-len in (
      omega (arith, l.invariant.0),
      l.invariant.1 ∙ closed_shorter c.args.strings.now l.len (omega arith) l.invariant.0 c.if-strings-len-ne0.true,
    )

pub returns-else-strings-len-ne0-clause-value : goal.returns-else-strings-len-ne0-clause-value
returns-else-strings-len-ne0-clause-value c =
    let l = c.loop-len in
    sym (l.invariant.1
    ∙ closed_whole c.args.strings.now l.len (omega arith) l.invariant.0 c.if-strings-len-ne0.false)

pub returns-after-loop-len-clause-value : goal.returns-after-loop-len-clause-value
returns-after-loop-len-clause-value c = grind (arith, c.loop-len.invariant.1)
