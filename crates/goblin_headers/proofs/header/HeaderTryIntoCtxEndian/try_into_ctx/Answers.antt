use Rattle.goblin_headers.proofs.Common.{rules}
use Rattle.goblin_headers.proofs.WriteHeaderLemmas.{written_32, written_64, header_answers}
use Rattle.goblin_headers.proofs.header.HeaderTryIntoCtxEndian.try_into_ctx.Goals as goal

pub returns-in-Little : goal.returns-in-Little
returns-in-Little c =
    let known = rw c.in-Little.is at c.in_ok-container.ensures in
    written_32 c.args.self _ c.args.bytes.now _ _ known (search (rules, header_answers)) c.try_into_ctx.ensures

pub returns-in-Big : goal.returns-in-Big
returns-in-Big c =
    let known = rw c.in-Big.is at c.in_ok-container.ensures in
    written_64 c.args.self _ c.args.bytes.now _ _ known (search (rules, header_answers)) c.try_into_ctx-in-Big.ensures
