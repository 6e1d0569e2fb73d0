use Rattle.goblin_headers.proofs.Common.{header32}
use Rattle.goblin_headers.proofs.WriteHeaderLemmas.{with_header}
use Rattle.goblin_headers.proofs.header32.Header.put.Goals as goal

pub returns : goal.returns
returns c =
    cc (with_header c.args.order c.args.self.now.e_ident c.args.bytes.now c.put_ident.new.bytes
    (header32.fields c.args.self.now) c.put_ident.ensures.size c.put_ident.ensures.written c.requires)
