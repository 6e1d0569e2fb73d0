use Rattle.goblin_headers.proofs.Common.{refl, rules, headed, header32}
use Rattle.goblin_headers.proofs.WriteHeaderLemmas.{in_order}
use Rattle.goblin_headers.proofs.header32.HeaderTryIntoCtxEndian.try_into_ctx.Goals as goal

pub returns : goal.returns
returns c =
    in_order c.args.self.e_ident (headed header32) c.args.self c.args.bytes.now c.put.new.bytes c.in-Some.order _ _ tt
    c.in-Some.ensures refl c.in_ok-room.ensures.value c.put.ensures (search rules)
