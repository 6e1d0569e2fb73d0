use Rattle.goblin_base.specs.Texts.{parts_text, prefix}
use Rattle.goblin_c.proofs.Common.{facts_of, laid, length, take, ◌*◌, ◌++◌, ◌+◌, ◌≡◌, ◌≤◌}
use Rattle.goblin_c.proofs.texts.write_parts.Given as goal

abbrev pub invariant-loop-part : goal.invariant-loop-part
invariant-loop-part l =
    let text = prefix l.report.kind ++ parts_text (facts_of l.report) (take l.part-index l.parts) in
    record {
      written : l.buffer ≡ laid text l.fn.buffer;
      value : l.len ≡ length text;
      bound : l.len ≤ 100 + l.part-index * 100;
    }
