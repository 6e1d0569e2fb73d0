use Rattle.goblin_headers.proofs.WholeParts.{headers_of_whole, sections_of_whole, segments_of_whole}
use Rattle.goblin_headers.proofs.whole_part.laws.Goals as goal

pub returns-clause-sections : goal.returns-clause-sections
returns-clause-sections c = sections_of_whole

pub returns-clause-segments : goal.returns-clause-segments
returns-clause-segments c = segments_of_whole

pub returns-clause-headers : goal.returns-clause-headers
returns-clause-headers c = headers_of_whole
