use Rattle.goblin_headers.proofs.Common.{rules, as32}
use Rattle.goblin_headers.proofs.WriteHeaderLemmas.{low_in_used_order}
use Rattle.goblin_headers.proofs.header.HeaderIntoCtxCtx.into_ctx.Goals as goal

pub returns-in-Little : goal.returns-in-Little
returns-in-Little c =
    let put =
    low_in_used_order c.from.result (as32 c.args.self) c.put.new.bytes _ c.in-Some.order _ c.from.ensures c.put.ensures
    (search rules) in
    rw (← c.in-Some.ensures, c.in-Little.is) put
