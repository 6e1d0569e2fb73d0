use Rattle.goblin_headers.proofs.header32.Header.at_in.Goals as goal

pub returns : goal.returns
returns c = cc
