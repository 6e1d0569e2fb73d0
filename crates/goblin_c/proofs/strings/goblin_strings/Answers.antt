-- At an offset in the table the string there is expected, so there is one item more (`each-step`, `rest-step`). At one
-- past the table none is, and the call stops there (`fills_before`). So it does at the first offset if the table is
-- refused.
use Rattle.goblin_c.proofs.BufferLemmas.{each-step, fills_all, fills_before, rest-step, result_at}
use Rattle.goblin_c.proofs.Common.{Err, None, Ok, Some, arith, get_or, length, map, nat_tests, refl}
use Rattle.goblin_c.proofs.Common.{string_expected, take, ◌≡◌}
use Rattle.goblin_c.specs.Results.{refusal_at}
use Rattle.goblin_c.proofs.strings.goblin_strings.Goals as goal

pub loop-i-preserved : goal.loop-i-preserved
loop-i-preserved c =
    let l = c.loop-i in
    let strings = c.args.strings.now in
    let offset = get_or c.args.offsets.now l.i 0 in
    let f = string_expected c.args.file.now.bytes.now strings in
    let n = length c.args.ranges.now in
    let string = c.new.result in
    let is : f offset ≡ Ok (Some string) = rw c.new.ensures (grind (arith, nat_tests, c.in-Ok.ensures.given)) in
    let found = result_at f n c.args.offsets.now l.i offset 0 refl in
    record {
      are = each-step (λ x. Ok (Some x)) (map f (take n c.args.offsets.now)) l.ranges l.i string l.invariant.are
          (grind (arith, found, is)) (omega arith);
      rest = rest-step c.args.ranges.now l.ranges l.i string l.invariant.rest;
    }

pub returns-then-start-table : goal.returns-then-start-table
returns-then-start-table c =
    let l = c.loop-i in
    fills_before (string_expected c.args.file.now.bytes.now c.args.strings.now) (length c.args.ranges.now)
    c.args.offsets.now c.args.ranges.now c.args.why.now 1 l.ranges l.i c.args.why.now 0 (Ok None) (omega arith)
    (grind (arith, nat_tests, c.in-Ok.ensures.given)) l.invariant.are l.invariant.rest (refl, refl)

pub returns-in-Err : goal.returns-in-Err
returns-in-Err c =
    fills_before (string_expected c.args.file.now.bytes.now c.args.strings.now) (length c.args.ranges.now)
    c.args.offsets.now c.args.ranges.now c.args.why.now c.refuse.result c.args.ranges.now 0 c.refuse.new.why 0
    (Err (refusal_at c.in-Err.e)) (omega arith) (grind (arith, c.in-Err.ensures.given)) refl refl
    (c.refuse.ensures.value, c.refuse.ensures.written)

pub returns : goal.returns
returns c =
    let l = c.loop-i in
    let all : c.min-count.result ≡ l.i = omega arith in
    rw all (fills_all (string_expected c.args.file.now.bytes.now c.args.strings.now) (length c.args.ranges.now)
    c.args.offsets.now c.args.ranges.now c.args.why.now 0 l.ranges l.i c.args.why.now (omega arith) l.invariant.are
    l.invariant.rest (refl, refl))
