-- The bytes come after those that the buffer had: these are written first, which empties the buffer, and then the bytes
-- are written, or fill it.
use Rattle.goblin_text.proofs.Common.{Keeps, held}
use Rattle.goblin_text.proofs.TargetLemmas.{added, emptied}
use Rattle.goblin_text.proofs.targets.Buffered.put_after_writing.Goals as goal

pub returns-clause-bytes : goal.returns-clause-bytes
returns-clause-bytes g c =
    let before = held (g.W.Sink.contents c.args.self.now.writer.now) c.args.self.now.room c.args.self.now.filled in
    let room = c.pass_on.new.self.room in
    let filled = c.pass_on.new.self.filled in
    let between = g.W.Sink.contents c.pass_on.new.self.writer.now in
    let after = g.W.Sink.contents c.add.new.self.writer.now in
    let kept : Keeps before (held after room filled) =
    rw (c.add.ensures.unchanged, emptied between room filled c.in_ok-pass_on.ensures.ok)
    c.in_ok-pass_on.ensures.bytes in
    added before after room c.add.new.self.room filled c.add.new.self.filled c.args.bytes.now kept c.add.ensures.written
