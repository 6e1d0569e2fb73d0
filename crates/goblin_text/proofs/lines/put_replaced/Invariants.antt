use Rattle.goblin_text.proofs.Common.{◌≡◌, Appends, encode_utf8_all, printed, Stops}
use Rattle.goblin_text.proofs.lines.put_replaced.Given as goal

-- what was passed is put as it prints
abbrev pub invariant-loop-c : goal.invariant-loop-c
invariant-loop-c g l =
    let target = g.T.Target in
    record {
      appends : Appends (target.state l.initial.target).contents (target.state l.target).contents
          (printed (encode_utf8_all l.yielded));
      heeded : (target.state l.target).reported_error ≡ (target.state l.initial.target).reported_error;
      stopped : Stops (target.state l.initial.target) (target.state l.target);
      same_writer : target.writer_name l.target ≡ target.writer_name l.initial.target;
    }
