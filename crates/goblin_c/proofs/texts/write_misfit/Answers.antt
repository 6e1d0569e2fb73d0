-- Each part is written right after those before it (`laid-then`).
use Rattle.goblin_c.proofs.BufferLemmas.{laid-then}
use Rattle.std.proofs.Common.{arith, codes, length-append, ◌++◌}
use Rattle.std.specs.Fmt.{decimal}
use Rattle.goblin_c.proofs.texts.write_misfit.Goals as goal

pub returns-clause-written : goal.returns-clause-written
returns-clause-written c =
    let old = c.args.buffer.now in
    let start = codes ": " ++ decimal c.args.why.now.first in
    let middle = codes " at offset " in
    let two = laid-then c.args.len (codes ": ") (decimal c.args.why.now.first) old c.write_after-len.result in
    let three = laid-then c.args.len start middle old c.write_digits-len.result in
    let four = laid-then c.args.len (start ++ middle) (decimal c.args.why.now.offset) old c.write_after-len-2.result in
    grind (arith, length-append, two, three, four)
