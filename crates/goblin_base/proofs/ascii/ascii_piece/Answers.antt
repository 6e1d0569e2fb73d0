use Rattle.goblin_base.proofs.Common.{◌≡◌, ◌∙◌, ◌<◌, eqb, true, get_or, length, ap, sym, arith, Ok, nat_tests}
use Rattle.goblin_base.proofs.AsciiLemmas.{run_is_text, run_is_plain}
use Rattle.goblin_base.proofs.ascii.ascii_piece.Goals.{else-len-bytes-via-then-len-bytes+else-bytes-len}
use Rattle.goblin_base.proofs.ascii.ascii_piece.Goals.{else-len-bytes-via-else-len-bytes}
use Rattle.goblin_base.proofs.ascii.ascii_piece.Goals as goal

pub from_utf8_unchecked-requires : goal.from_utf8_unchecked-requires
from_utf8_unchecked-requires c = run_is_text c.args.delim c.run_len-len.result c.args.bytes.now c.run_len-len.ensures

pub returns : goal.returns
returns c =
    let bytes = c.args.bytes.now in
    let n = c.run_len-len.result in
    let ended : n < length bytes → eqb (get_or bytes n 0) c.args.delim ≡ true = elim c.else-len-bytes.branch [
      | else-len-bytes-via-then-len-bytes+else-bytes-len w ↦ λ l. grind (arith, nat_tests)
      | else-len-bytes-via-else-len-bytes w ↦ λ l. absurd (omega arith)
    ] in
    run_is_plain c.args.delim n bytes c.run_len-len.ensures ended ∙ ap Ok (sym c.from_utf8_unchecked.ensures)
