use Rattle.goblin_text.proofs.Common.{◌≡◌, take, Appends, Stops}
use Rattle.goblin_base.specs.Texts.{facts_of, parts_text}
use Rattle.goblin_text.proofs.lines.put_error.Given as goal

-- the parts so far are put
abbrev pub invariant-loop-part : goal.invariant-loop-part
invariant-loop-part g l =
    let target = g.T.Target in
    record {
      appends : Appends (target.state l.initial.target).contents (target.state l.target).contents
          (parts_text (facts_of l.report) (take l.part-index l.parts));
      heeded : (target.state l.target).reported_error ≡ (target.state l.initial.target).reported_error;
      stopped : Stops (target.state l.initial.target) (target.state l.target);
      same_writer : target.writer_name l.target ≡ target.writer_name l.initial.target;
    }
