use Rattle.goblin_base.proofs.Common.{◌≡◌, ◌-◌, ℕ, ap, length, arith, drop, subst, sym, length-drop, take_all}
use Rattle.goblin_base.proofs.Common.{IsUtf8-from_ascii, IsUtf8, common_steps}
use Rattle.goblin_base.proofs.digits.Digits.as_str.Goals as goal

pub from_utf8_unchecked-requires : goal.from_utf8_unchecked-requires
from_utf8_unchecked-requires c =
    let start = c.args.self.now.start in
    let digits = drop start c.args.self.now.bytes in
    subst IsUtf8 (sym (take_all (20 - start) digits (omega (arith, length-drop start c.args.self.now.bytes))))
    (IsUtf8-from_ascii digits c.requires.ascii)

pub returns-clause-bound : goal.returns-clause-bound
returns-clause-bound c =
    let digits = drop c.args.self.now.start c.args.self.now.bytes in
    let value : c.from_utf8_unchecked.result.now ≡ digits =
    grind (arith, common_steps, length-drop {A = ℕ}, take_all {A = ℕ}) in
    omega (arith, ap length value, length-drop c.args.self.now.start c.args.self.now.bytes)
