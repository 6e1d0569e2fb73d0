use Rattle.goblin_headers.proofs.header64.Header.at_in.Goals as goal

pub returns : goal.returns
returns c = cc
