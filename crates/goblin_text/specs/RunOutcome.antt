-- How a run ends: what it reads and writes.
use Rattle.std.specs.Prelude.{◌≡◌, ◌≢◌, ℕ, ◌+◌, ◌-◌, ◌^◌, ◌<◌, ◌≤◌, ◌⊎◌, min, IfErr, IsTrue, List, length, Option, Ok}
use Rattle.std.specs.Prelude.{Err, codes, decimal, vec_items}
use Rattle.goblin_text.specs.Common.{Appends, Consumes, IsAtEnd, Refusal, ◌&◌, refusal_text, ParseMode}
use Rattle.goblin_text.specs.ShownLines.{newline}
use Rattle.goblin_text.specs.StreamMarks.{ReadsNoFurther, StopsAtError, StreamMarks}
use Rattle.goblin_text.specs.Shown.{shown, tested}
use Rattle.goblin_text.specs.declared.input.Input.{Input}
use Rattle.goblin_text.specs.declared.input.Input.TheVariants as inputs
use Rattle.goblin_text.specs.declared.run.Outcome.{Outcome}
use Rattle.goblin_text.specs.declared.run.Outcome.TheVariants as outcomes

-- the greatest number of bytes that the program takes
abbrev pub input_limit : ℕ
input_limit = 16777216

-- the greatest number of read calls
abbrev pub read_limit : ℕ
read_limit = 33554432

-- The reader returned these bytes, which are no more than the program takes, and its end: none is left.
pub record ReadsAll (old new : Option (List ℕ)) (marks : StreamMarks) (bytes : List ℕ) : Type 0 where
  pub taken : Consumes old new bytes
  pub all : IsAtEnd new
  pub short : length bytes ≤ input_limit
  pub end : IsTrue marks.reported_end

-- The reader returned these bytes, which are more than the program takes.
pub record ReadsTooMuch (old new : Option (List ℕ)) (bytes : List ℕ) : Type 0 where
  pub taken : Consumes old new bytes
  pub long : input_limit < length bytes

-- the reader returned at most one byte more than the program takes
abbrev pub ReadsAtMostOneMore : Option (List ℕ) → Option (List ℕ) → Type 0
ReadsAtMostOneMore old new = (bytes : List ℕ) × Consumes old new bytes × (length bytes ≤ input_limit + 1)

-- The reader was called this often, and didn't return its end.
pub record ReadsInVain (limit : ℕ) (before after : StreamMarks) : Type 0 where
  pub calls : min (before.read_calls + limit) (2 ^ 64 - 1) ≤ after.read_calls
  pub endless : after.reported_end ≡ before.reported_end

-- The reader reported an error that was no interruption, or it was called as often as it may be, without an end.
pub record FailsToRead (before after : StreamMarks) : Type 0 where
  pub error : IsTrue after.reported_error
  pub reason : IsTrue after.reported_failure ⊎ ReadsInVain read_limit before after

-- The reader returned no more bytes than the program takes, and not its end, in fewer than so many calls.
pub record StopsReading (limit : ℕ) (old new : Option (List ℕ)) (before after : StreamMarks) : Type 0 where
  pub taken : (bytes : List ℕ) × Consumes old new bytes × (length bytes ≤ input_limit)
  pub endless : after.reported_end ≡ before.reported_end
  pub calls : after.read_calls < before.read_calls + limit

-- what was read: memory runs out before a call that was still to be made
abbrev pub IsInput : Input → Option (List ℕ) → Option (List ℕ) → StreamMarks → StreamMarks → Type 0
IsInput (inputs.Whole v) old new before after = ReadsAll old new after (vec_items v)
IsInput inputs.TooLong old new before after = (bytes : List ℕ) × ReadsTooMuch old new bytes
IsInput inputs.OutOfMemory old new before after = StopsReading read_limit old new before after
IsInput inputs.Failed old new before after = FailsToRead before after

-- what was read in so many calls: in fewer than there may be bytes, the reader may report no error
abbrev pub IsInputWithin : (limit : ℕ) → Input → Option (List ℕ) → Option (List ℕ) → StreamMarks → StreamMarks → Type 0
IsInputWithin limit (inputs.Whole v) old new before after = ReadsAll old new after (vec_items v)
IsInputWithin limit inputs.TooLong old new before after = (bytes : List ℕ) × ReadsTooMuch old new bytes
IsInputWithin limit inputs.OutOfMemory old new before after = StopsReading limit old new before after
IsInputWithin limit inputs.Failed old new before after =
    (IsTrue after.reported_failure ⊎ ReadsInVain limit before after)
    × (input_limit < limit → IsTrue after.reported_error)

-- the writer holds the text of all bytes more, and no other
abbrev pub IsShown : ParseMode → (old new : Option (List ℕ)) → StreamMarks → (held holds : Option (List ℕ)) → Type 0
IsShown mode old new marks held holds =
    (bytes : List ℕ) × ReadsAll old new marks bytes × (text : List ℕ) × (shown mode bytes ≡ Ok text)
    × Appends held holds text

-- the writer holds `refused: `, this line and a newline more, and no other
abbrev pub WritesRefusal : Option (List ℕ) → Option (List ℕ) → List ℕ → Type 0
WritesRefusal held holds line = Appends held holds (codes "refused: " & line & newline)

-- how the program is called
abbrev pub usage_line : List ℕ
usage_line = codes "usage: goblin_show [permissive]" & newline

-- the writer holds the line on how the program is called more, and no other, or it reported an error, and was not
-- called after it
abbrev pub WritesUsage : (held holds : Option (List ℕ)) → (first last : StreamMarks) → Type 0
WritesUsage held holds first last =
    (Appends held holds usage_line ⊎ IsTrue last.reported_error) × StopsAtError first last

-- what is said of an input that is longer than the program takes
abbrev pub too_long : List ℕ
too_long = codes "input is longer than " & decimal input_limit & codes " bytes"

-- why a line is written in place of the text of these bytes: they are refused, or memory ran out, which masks no
-- refusal that is tested before the first allocation
abbrev pub IsReasonOf : ParseMode → List ℕ → List ℕ → Type 0
IsReasonOf mode bytes line =
    ((r : Refusal) × (shown mode bytes ≡ Err r) × (line ≡ refusal_text r))
    ⊎ ((line ≡ codes "Out of memory") × IfErr (tested bytes) (λ r. line ≡ refusal_text r))

-- why a line is written in place of a text: all bytes were read and are refused, or they are too many, or memory ran
-- out
abbrev pub IsReason : ParseMode → (old new : Option (List ℕ)) → (before after : StreamMarks) → List ℕ → Type 0
IsReason mode old new before after line =
    ((bytes : List ℕ) × ReadsAll old new after bytes × IsReasonOf mode bytes line)
    ⊎ (((bytes : List ℕ) × ReadsTooMuch old new bytes × (line ≡ too_long))
    ⊎ (StopsReading read_limit old new before after × (line ≡ codes "Out of memory")))

-- How a run ended. Of the reader, what is left and the marks are given, before and after; of the writer, what it holds
-- and the marks.
pub record HasRun (mode : ParseMode) (outcome : Outcome) (old new : Option (List ℕ)) (before after : StreamMarks)
    (held holds : Option (List ℕ)) (first last : StreamMarks) : Type 0 where
  -- the reader returned its end, and the text of all its bytes was written
  pub shown : outcome ≡ outcomes.Shown → IsShown mode old new after held holds
  -- one line with the reason was written
  pub refused : outcome ≡ outcomes.Refused
      → (line : List ℕ) × IsReason mode old new before after line × WritesRefusal held holds line
  -- the reader failed, and nothing was written, or the writer reported an error
  pub failed : outcome ≡ outcomes.Failed → (FailsToRead before after × (holds ≡ held)) ⊎ IsTrue last.reported_error
  -- else the reader reported no error but interruptions, and the writer none
  pub heeds_reader : outcome ≢ outcomes.Failed → after.reported_failure ≡ before.reported_failure
  pub heeds_writer : outcome ≢ outcomes.Failed → last.reported_error ≡ first.reported_error
  -- however it ended, nothing was written after an error of the writer, or read after a failure of the reader or its
  -- end
  pub stopped : StopsAtError first last
  pub stops_reading : ReadsNoFurther before after
  -- and no more was read
  pub most : ReadsAtMostOneMore old new
  pub calls : after.read_calls ≤ before.read_calls + read_limit

-- the exit status of a run
abbrev pub status_of : Outcome → ℕ
status_of outcomes.Shown = 0
status_of outcomes.Refused = 1
status_of outcomes.Failed = 2
