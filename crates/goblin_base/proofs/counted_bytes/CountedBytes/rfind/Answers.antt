-- From the end on, block by block: the last piece of the range begins in the first block that holds the byte, or before
-- all blocks.
use Rattle.goblin_base.proofs.Common.{◌≡◌, ℕ, ◌+◌, ◌-◌, ◌<◌, ◌≤◌, length, arith, ap, ◌∙◌, sym, ⊎_elim, cases_lt}
use Rattle.goblin_base.proofs.Common.{piece_start}
use Rattle.std.proofs.Common.{slice_range}
use Rattle.goblin_base.proofs.FirstLemmas.{length_of_range}
use Rattle.goblin_base.proofs.LastLemmas.{range_start, start_at_none}
use Rattle.goblin_base.proofs.counted_bytes.CountedBytes.rfind.Goals.{After-len_to_last-len}
use Rattle.goblin_base.proofs.counted_bytes.CountedBytes.rfind.Goals as goal

-- the block that was read: where the last piece begins in it
block : (c : After-len_to_last-len)
    → c.len_to_last-len.result
    ≡ piece_start (slice_range c.args.self.now.bytes (c.loop-end.end - 16) (c.loop-end.end - 16 + 16)) c.args.byte 16
block c =
    let end : c.loop-end.end ≡ c.loop-end.end - 16 + 16 = omega (arith, c.loop-end-test.true) in
    c.len_to_last-len.ensures.value
    ∙ ap (λ bs. piece_start bs c.args.byte 16)
    (c.bytes.ensures.value
    ∙ ap (λ bs. slice_range bs (c.loop-end.end - 16) c.loop-end.end) c.loop-end.invariant.same
    ∙ ap (slice_range c.args.self.now.bytes (c.loop-end.end - 16)) end)

itself : (n : ℕ) → n - n ≡ 0
itself n = omega arith

pub loop-end-preserved : goal.loop-end-preserved
loop-end-preserved c =
    let i = c.loop-end.invariant in
    let range = slice_range c.args.self.now.bytes c.args.from c.args.to in
    let start = c.loop-end.end - 16 in
    let at : c.loop-end.end - c.args.from ≡ start + 16 - c.args.from = omega (arith, c.loop-end-test.true) in
    let there = range_start c.args.self.now.bytes c.args.byte c.args.from c.args.to start 16
    (omega (arith, c.loop-end-test.true)) (omega (arith, c.loop-end-test.true, i.within)) c.requires.within in
    let nothing : c.len_to_last-len.result ≡ 0 = omega (arith, c.if-len-gt0.false) in
    let none = sym (block (goal.at.loop-end-preserved c).After-len_to_last-len) ∙ nothing in
    let count = ap (λ v. v.count) c.bytes.ensures.counted in
    record {
      same = c.bytes.ensures.unchanged ∙ i.same;
      ordered = omega (arith, c.loop-end-test.true);
      within = omega (arith, i.within);
      start = i.start ∙ ap (piece_start range c.args.byte) at ∙ there.1 none;
      blocks = omega (arith, i.blocks, i.within, c.loop-end-test.true);
      counted = omega (arith, count, i.counted, i.within, c.loop-end-test.true);
    }

pub returns-then-len-gt0-clause-value : goal.returns-then-len-gt0-clause-value
returns-then-len-gt0-clause-value c =
    let i = c.loop-end.invariant in
    let range = slice_range c.args.self.now.bytes c.args.from c.args.to in
    let start = c.loop-end.end - 16 in
    let at : c.loop-end.end - c.args.from ≡ start + 16 - c.args.from = omega (arith, c.loop-end-test.true) in
    let there = range_start c.args.self.now.bytes c.args.byte c.args.from c.args.to start 16
    (omega (arith, c.loop-end-test.true)) (omega (arith, c.loop-end-test.true, i.within)) c.requires.within in
    let is = block (goal.at.returns-then-len-gt0-clause-value c).After-len_to_last-len in
    let last = i.start ∙ ap (piece_start range c.args.byte) at ∙ there.0 (omega (arith, is, c.if-len-gt0.true)) in
    omega (arith, last, is, c.loop-end-test.true)

pub returns-clause-value : goal.returns-clause-value
returns-clause-value c =
    let i = c.loop-end.invariant in
    let bytes = c.args.self.now.bytes in
    let d = c.args.byte in
    let from = c.args.from in
    let n = c.loop-end.end - from in
    let range = slice_range bytes from c.args.to in
    let end : c.loop-end.end ≡ from + n = omega (arith, i.ordered) in
    let at : from + n - from ≡ n = omega arith in
    let rest : c.bytes-2.result.now ≡ slice_range bytes from (from + n) =
    c.bytes-2.ensures.value
    ∙ ap (λ bs. slice_range bs from c.loop-end.end) i.same ∙ ap (slice_range bytes from) end in
    let size : length c.bytes-2.result.now ≡ n =
    ap length rest
    ∙ length_of_range bytes from (from + n) (omega (arith, end, i.within, c.requires.within)) ∙ at in
    let own : c.last_start.result ≡ piece_start (slice_range bytes from (from + n)) d n =
    c.last_start.ensures.value ∙ ap (λ bs. piece_start bs d (length c.bytes-2.result.now)) rest
    ∙ ap (piece_start (slice_range bytes from (from + n)) d) size in
    let there =
    range_start bytes d from c.args.to from n (omega arith) (omega (arith, end, i.within)) c.requires.within in
    let part = piece_start (slice_range bytes from (from + n)) d n in
    let same : piece_start range d n ≡ part = ⊎_elim
    (λ (l : 0 < part).
    let first : from - from + part ≡ part = omega arith in
    sym (ap (piece_start range d) at) ∙ there.0 l ∙ first)
    (λ (l : part ≤ 0).
    let z : part ≡ 0 = omega arith in
    sym (ap (piece_start range d) at)
    ∙ there.1 z ∙ ap (piece_start range d) (itself from) ∙ start_at_none range d ∙ sym z)
    (cases_lt 0 part) in
    ap (λ k. from + k) (own ∙ sym same ∙ sym i.start)
