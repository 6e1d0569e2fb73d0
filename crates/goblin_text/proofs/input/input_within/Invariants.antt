use Rattle.goblin_text.proofs.Common.{◌≡◌, ◌+◌, ◌-◌, ◌^◌, ◌≤◌, min, false, take, vec_len, Consumes}
use Rattle.goblin_text.specs.StreamMarks.{ReadsNoFurther}
use Rattle.goblin_text.specs.declared.input.TheConstants.{INPUT_LIMIT}
use Rattle.goblin_text.proofs.input.input_within.Given as goal

-- The filled bytes are those that were taken. If no error was reported, each call returned a byte.
abbrev pub invariant-loop : goal.invariant-loop
invariant-loop g l =
    let source = g.R.Source in
    record {
      taken : Consumes (source.remaining l.initial.reader) (source.remaining l.reader) (take l.filled l.bytes.items);
      short : l.filled ≤ INPUT_LIMIT;
      room : l.filled ≤ vec_len l.bytes;
      most : vec_len l.bytes ≤ INPUT_LIMIT + 1;
      calls : (source.marks l.reader).read_calls ≤ (source.marks l.initial.reader).read_calls + l.counter;
      each : min ((source.marks l.initial.reader).read_calls + l.counter) (2 ^ 64 - 1)
          ≤ (source.marks l.reader).read_calls;
      endless : (source.marks l.reader).reported_end ≡ (source.marks l.initial.reader).reported_end;
      gave : (source.marks l.reader).reported_error ≡ false → l.counter ≤ l.filled;
      stopped : ReadsNoFurther (source.marks l.initial.reader) (source.marks l.reader);
      heeded : (source.marks l.reader).reported_failure ≡ (source.marks l.initial.reader).reported_failure;
    }
