use Rattle.goblin_text.proofs.RunEnds.{none_known, unknown_most}
use Rattle.goblin_text.specs.declared.block_runs.TheConstants.{BLOCKS}
use Rattle.goblin_text.proofs.block_runs.none_known.Goals as goal

pub returns-clause-known : goal.returns-clause-known
returns-clause-known c = λ kind bytes. none_known kind bytes BLOCKS

pub returns-clause-unknown : goal.returns-clause-unknown
returns-clause-unknown c = λ n. unknown_most n _
