use Rattle.goblin_c.proofs.BufferLemmas.{parts_have_same_text}
use Rattle.goblin_c.specs.TextLaws.{refusals_have_same_text}
use Rattle.goblin_c.proofs.laws.texts.Goals as goal

pub returns : goal.returns
returns c = record { calls = refusals_have_same_text; notes = parts_have_same_text }
