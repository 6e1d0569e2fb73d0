use Rattle.goblin_base.proofs.Common.{take, HasWritten, IsPlainFormatter, facts_of, parts_text}
use Rattle.goblin_base.proofs.texts.Report.write_parts.Given as goal

abbrev pub invariant-loop-part : goal.invariant-loop-part
invariant-loop-part g l =
    IsPlainFormatter l.fn.f
    → HasWritten g.W.Write.write_str_gives l.fn.f (parts_text (facts_of l.self) (take l.part-index l.parts)) l.f
