-- What clauses see of a `Counted`.
use Rattle.goblin_text.specs.StreamMarks.{StreamMarks}
use Rattle.goblin_text.specs.declared.counted.Counted.{Counted}

-- the reader or writer inside
abbrev pub inner_of : {T : Type 0} → Counted T → T
inner_of c = c.inner

-- what it has reported so far
abbrev pub marks_of : {T : Type 0} → Counted T → StreamMarks
marks_of c =
    record {
      read_calls = c.read_calls;
      reported_error = c.reported_error;
      reported_failure = c.reported_failure;
      reported_end = c.reported_end;
      went_on = c.went_on;
      read_on = c.read_on;
    }
