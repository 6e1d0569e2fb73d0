-- A piece that fits is put: the writer and the bytes in the buffer are as before, and the piece comes after them.
use Rattle.goblin_text.proofs.Common.{arith, Keeps-refl, common_steps, Keeps, held}
use Rattle.goblin_text.proofs.TargetLemmas.{added}
use Rattle.goblin_text.proofs.targets.BufferedTarget.put.Goals as goal

pub returns-then-has_room-clause-put : goal.returns-then-has_room-clause-put
returns-then-has_room-clause-put g c =
    let before = held (g.W.Sink.contents c.args.self.now.writer.now) c.args.self.now.room c.args.self.now.filled in
    let room = c.args.self.now.room in
    let filled = c.args.self.now.filled in
    let after = g.W.Sink.contents c.add.new.self.writer.now in
    let kept : Keeps before (held after room filled) = rw c.add.ensures.unchanged (Keeps-refl before) in (
      rw c.as_bytes-bytes.ensures.value at
          (added before after room c.add.new.self.room filled c.add.new.self.filled c.as_bytes-bytes.result.now kept
          c.add.ensures.written),
      grind (arith, common_steps),
      λ known. grind (arith, common_steps),
    )
