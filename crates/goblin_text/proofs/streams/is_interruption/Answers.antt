use Rattle.goblin_text.proofs.Common.{◌≡◌, ◌≢◌, ap, false, refl}
use Rattle.std.specs.declared.io.ErrorKind.{ErrorKind}
use Rattle.std.specs.declared.io.ErrorKind.TheVariants.{Interrupted}
use Rattle.goblin_text.specs.StreamMarks.{is_interruption}
use Rattle.goblin_text.proofs.streams.is_interruption.Goals as goal

-- no other kind is an interruption
other : (kind : ErrorKind) → kind ≢ Interrupted → is_interruption kind ≡ false
unfolding is_interruption
other Interrupted not = absurd (not refl)
other kind not = refl

pub returns-in-Interrupted : goal.returns-in-Interrupted
unfolding is_interruption
returns-in-Interrupted c = ap is_interruption c.in-Interrupted.ensures

pub returns-in_default : goal.returns-in_default
returns-in_default c = cc (other c.kind.result c.in_default.not-Interrupted)
