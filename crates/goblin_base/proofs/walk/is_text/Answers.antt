use Rattle.goblin_base.proofs.MarksLemmas.{low_is_text}
use Rattle.goblin_base.proofs.walk.is_text.Goals as goal

pub returns-then-is_ascii-clause-value : goal.returns-then-is_ascii-clause-value
returns-then-is_ascii-clause-value c =
    (λ t. low_is_text c.args.view.now.bytes c.args.from c.args.to (c.requires.ascii t), λ _. c.if-is_ascii.true)
