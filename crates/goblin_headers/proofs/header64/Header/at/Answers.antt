use Rattle.goblin_headers.proofs.Common.{ap, sym, ◌∙◌, Endian, headed, header64}
use Rattle.goblin_headers.proofs.header64.Header.at.Goals as goal

pub returns-in-Little : goal.returns-in-Little
returns-in-Little c =
    c.at_in.ensures ∙ ap (λ (order : Endian). (headed header64 order).read c.args.bytes.now) (sym c.in-Little.is)

pub returns-in-Big : goal.returns-in-Big
returns-in-Big c =
    c.at_in-in-Big.ensures ∙ ap (λ (order : Endian). (headed header64 order).read c.args.bytes.now) (sym c.in-Big.is)
