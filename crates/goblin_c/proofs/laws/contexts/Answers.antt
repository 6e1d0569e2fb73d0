use Rattle.goblin_c.proofs.ListLemmas.{context_is_the_headers}
use Rattle.goblin_c.proofs.laws.contexts.Goals as goal

pub returns : goal.returns
returns c = context_is_the_headers
