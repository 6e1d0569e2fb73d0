use Rattle.goblin_c.proofs.StringLemmas.{is_c_string}
use Rattle.goblin_c.proofs.strings.goblin_string_closed.Goals as goal

pub returns-clause-closed : goal.returns-clause-closed
returns-clause-closed c ok = is_c_string _ _ _ _ _ _ _ _ _ c.closed_string_at.ensures c.store.ensures ok
