use Rattle.goblin_text.proofs.Common.{refl, slice_range}
use Rattle.goblin_text.proofs.Common.{false_from_ne_true, IsUtf8-from_is_utf8, is_utf8-from_IsUtf8, is_utf8}
use Rattle.goblin_text.proofs.looks.text.Goals as goal

pub returns-in-Ok-clause-value : goal.returns-in-Ok-clause-value
returns-in-Ok-clause-value c =
    let bytes = slice_range c.args.view.now.bytes c.args.from c.args.to in
    rw (is_utf8-from_IsUtf8 bytes c.in-Ok.ensures.cases.1) c.in-Ok.ensures.cases.0

pub returns-in-Err-clause-value : goal.returns-in-Err-clause-value
returns-in-Err-clause-value c =
    let bytes = slice_range c.args.view.now.bytes c.args.from c.args.to in
    rw (false_from_ne_true (is_utf8 bytes) (λ t. c.in-Err.ensures.cases.0 (IsUtf8-from_is_utf8 bytes t))) refl
