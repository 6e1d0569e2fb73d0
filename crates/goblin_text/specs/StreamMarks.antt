-- What a reader or a writer has reported so far.
use Rattle.std.specs.Prelude.{◌≡◌, ℕ, ◌+◌, ◌-◌, ◌^◌, min, Bool, ◌||◌, ◌&&◌, ◌==◌, nat_lt, not, false, true, List}
use Rattle.std.specs.Prelude.{length, Result, Ok, Err, is_err}
use Rattle.goblin_text.specs.Common.{Error}
use Rattle.std.specs.IoError.{error_kind}
use Rattle.std.specs.declared.io.ErrorKind.{ErrorKind}
use Rattle.std.specs.declared.io.ErrorKind.TheVariants.{Interrupted}

-- how many read calls there were, which stops at the greatest u64; whether an error, a read error that is no
-- interruption, and the end were reported; whether it was written or flushed after an error, and read after a failure
-- or the end
pub record StreamMarks : Type 0 where
  pub read_calls : ℕ
  pub reported_error : Bool
  pub reported_failure : Bool
  pub reported_end : Bool
  pub went_on : Bool
  pub read_on : Bool

-- if no error was reported before, nothing was written or flushed after one
abbrev pub StopsAtError : StreamMarks → StreamMarks → Type 0
StopsAtError first last = first.reported_error ≡ false → last.went_on ≡ first.went_on

-- if neither a failure nor the end was reported before, nothing was read after one
abbrev pub ReadsNoFurther : StreamMarks → StreamMarks → Type 0
ReadsNoFurther before after =
    before.reported_failure ≡ false → before.reported_end ≡ false → after.read_on ≡ before.read_on

-- before any call
abbrev pub no_marks : StreamMarks
no_marks =
    record {
      read_calls = 0;
      reported_error = false;
      reported_failure = false;
      reported_end = false;
      went_on = false;
      read_on = false;
    }

-- the kind of an error after which a call is tried again
unfoldable pub is_interruption : ErrorKind → Bool
is_interruption Interrupted = true
is_interruption kind = false

-- an error that is no interruption
abbrev pub is_failure : Result ℕ Error → Bool
is_failure (Ok count) = false
is_failure (Err e) = not (is_interruption (error_kind e))

-- a read of 0 bytes into a buffer that isn't empty is the end
abbrev pub is_end : Result ℕ Error → List ℕ → Bool
is_end (Ok count) buf = (count == 0) && nat_lt 0 (length buf)
is_end (Err e) buf = false

-- the marks after `read(buf)` returned this
abbrev pub after_read : StreamMarks → Result ℕ Error → List ℕ → StreamMarks
after_read m answer buf = record {
  read_calls = min (m.read_calls + 1) (2 ^ 64 - 1);
  reported_error = m.reported_error || is_err answer;
  reported_failure = m.reported_failure || is_failure answer;
  reported_end = m.reported_end || is_end answer buf;
  went_on = m.went_on;
  read_on = m.read_on || m.reported_failure || m.reported_end;
}

-- the marks after `write_all` or `flush` returned this
abbrev pub after_write : {T E : Type 0} → StreamMarks → Result T E → StreamMarks
after_write m answer =
    record m { reported_error = m.reported_error || is_err answer; went_on = m.went_on || m.reported_error }
