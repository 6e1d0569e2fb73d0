-- The refused piece is the first one that is not UTF-8: the bytes up to the first fault are UTF-8, so it is the last
-- string before the fault, which is searched for backwards from there.
use Rattle.goblin_text.proofs.Common.{◌≡◌, ◌∙◌, ◌+◌, ◌-◌, ap, arith, length, refl, slice_range, take, Err, common_steps}
use Rattle.goblin_text.proofs.Common.{length-take-le, IsValidUpTo, invalid_utf8, utf8_valid_len-IsValidUpTo, first_bad}
use Rattle.goblin_text.proofs.Common.{piece_start, length_of_range}
use Rattle.std.specs.Str.Lossy.{utf8_valid_len}
use Rattle.goblin_text.proofs.Faults.{first_bad_of_front, front_of_range, table_refused}
use Rattle.goblin_text.proofs.looks.refuse_unless_text.Goals.{After-start_of_last_string-start}
use Rattle.goblin_text.proofs.looks.refuse_unless_text.Goals as goal

-- where the fault is, and the last string before it
record Fault (c : After-start_of_last_string-start) : Type 0 where
  is : IsValidUpTo (slice_range c.args.view.now.bytes c.args.from c.args.to) c.valid_up_to.result
  size : length (slice_range c.args.view.now.bytes c.args.from c.args.to) ≡ c.args.to - c.args.from
  start : c.start_of_last_string-start.result
      ≡ c.args.from
      + piece_start (take c.valid_up_to.result (slice_range c.args.view.now.bytes c.args.from c.args.to)) 0
      (length (take c.valid_up_to.result (slice_range c.args.view.now.bytes c.args.from c.args.to)))

fault : (c : After-start_of_last_string-start) → Fault c
fault c =
    let bytes = c.args.view.now.bytes in
    let table = slice_range bytes c.args.from c.args.to in
    let p = c.valid_up_to.result in
    let is : IsValidUpTo table p = grind (arith, common_steps) in
    let size : length table ≡ c.args.to - c.args.from =
    length_of_range bytes c.args.from c.args.to c.requires.within in
    let front : slice_range bytes c.args.from (c.args.from + p) ≡ take p table =
    front_of_range bytes c.args.from c.args.to p (omega (arith, is.short, size)) in
    let len : c.args.from + p - c.args.from ≡ length (take p table) =
    omega (arith, length-take-le p table (omega (arith, is.short))) in
    let found : c.start_of_last_string-start.result
    ≡ c.args.from + piece_start (slice_range bytes c.args.from (c.args.from + p)) 0 (c.args.from + p - c.args.from) =
    grind (arith, common_steps) in
    record {
      is = is;
      size = size;
      start = found ∙ rw (front, len) refl;
    }

pub returns-in-Err-clause-given : goal.returns-in-Err-clause-given
returns-in-Err-clause-given c =
    let table = slice_range c.args.view.now.bytes c.args.from c.args.to in
    let f = fault (goal.at.returns-in-Err-clause-given c).After-start_of_last_string-start in
    let p = c.valid_up_to.result in
    let rest : length table - piece_start (take p table) 0 (length (take p table))
    ≡ c.args.to - c.start_of_last_string-start.result =
    omega (arith, f.size, f.start) in
    table_refused table p f.is ∙ ap (λ n. Err (invalid_utf8 n)) rest ∙ grind (arith, common_steps)

pub returns-in-Err-clause-looks_least_refused : goal.returns-in-Err-clause-looks_least_refused
returns-in-Err-clause-looks_least_refused c =
    let table = slice_range c.args.view.now.bytes c.args.from c.args.to in
    let f = fault (goal.at.returns-in-Err-clause-looks_least_refused c).After-start_of_last_string-start in
    let p = c.valid_up_to.result in
    let len : utf8_valid_len table ≡ p = utf8_valid_len-IsValidUpTo table p f.is in
    let first : c.args.from + first_bad table 0 ≡ c.start_of_last_string-start.result =
    omega (arith, first_bad_of_front table p f.is, f.start) in
    grind (arith, common_steps, len, first)
