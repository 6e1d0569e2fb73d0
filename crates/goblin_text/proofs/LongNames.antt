-- Names that go on through blocks.
use Rattle.goblin_text.proofs.Common.{◌≡◌, ℕ, ◌+◌, ◌*◌, ◌<◌, ◌≤◌, List, length, sym, subst, ⊎_elim, arith, slice_range}
use Rattle.goblin_text.proofs.Common.{Option, None, Some, cases_lt, IsUtf8, texts-join, ZeroFree, BLOCK, EndsAt}
use Rattle.goblin_text.proofs.Common.{IsBlock, IsLong, IsZeroFree, IsRun, IsTextUpTo, LacksText, block_start, both_ways}
use Rattle.goblin_text.proofs.Common.{next_block, up_to_zero, Text, last_block}
use Rattle.goblin_text.proofs.CharStarts.{char_start_bounds, lacks-on, whole_to_start, lacks-after, of_up_to, text_cut}
use Rattle.goblin_text.proofs.Strings.{string-after, string-within}

-- text with no zero byte goes on from a place up to a block
pub record RunsTo (bytes : List ℕ) (place run : ℕ) : Type 0 where
  pub order : next_block place ≤ run
  pub head : IsUtf8 (slice_range bytes place (block_start bytes (next_block place)))
  pub blocks : IsRun ZeroFree bytes (next_block place) run

module _ (bytes : List ℕ) (place end : ℕ) (long : IsLong bytes place end) where
  -- no zero byte stands up to the next block
  whole_head : up_to_zero (slice_range bytes place (block_start bytes (next_block place)))
      ≡ slice_range bytes place (block_start bytes (next_block place))
  whole_head = grind (arith, char_start_bounds, whole_to_start)

  -- the bytes up to the next block are not UTF-8
  pub lacks_at_head : ¬ (IsUtf8 (slice_range bytes place (block_start bytes (next_block place))))
      → LacksText (slice_range bytes place end)
  lacks_at_head other =
      let bounds = char_start_bounds bytes (next_block place * BLOCK) in
      lacks-on bytes place (next_block place * BLOCK) end (omega arith) (omega (arith, long.blocks)) long.within
      (λ u. other (subst IsUtf8 whole_head u))

  pub zero_free_to_run : (run : ℕ)
      → RunsTo bytes place run → IsZeroFree (slice_range bytes place (block_start bytes run))
  zero_free_to_run run to =
      of_up_to ZeroFree bytes place (next_block place) run (omega arith) to.order
      (record { text = to.head; whole = whole_head }) to.blocks

-- a string ends in a block that isn't text with no zero byte, and ends there of more bytes too
pub ends_in_block : (bytes : List ℕ) (block end : ℕ) (found : Option ℕ) → block_start bytes (block + 1) ≤ end
    → end ≤ length bytes → ¬ (IsBlock ZeroFree bytes block)
    → EndsAt bytes (block_start bytes block) (block_start bytes (block + 1)) found
    → IsTextUpTo bytes (block_start bytes block) found → EndsAt bytes (block_start bytes block) end found
unfolding IsBlock
ends_in_block bytes block end None short h other e t =
    let bounds = char_start_bounds bytes (block * BLOCK) in
    lacks-on bytes (block_start bytes block) ((block + 1) * BLOCK) end (omega arith) short h e
ends_in_block bytes block end (Some stop) short h other e t =
    let from = block_start bytes block in
    let to = block_start bytes (block + 1) in
    ⊎_elim
    (λ (l : stop < to). record {
      order = e.order;
      within = omega (arith, l, short);
      is = string-within bytes from stop to end e.order l short (omega (arith, short, h)) e.is;
    })
    (λ (l : to ≤ stop).
    let all : stop ≡ to = omega (arith, l, e.within) in
    absurd (other (record {
      text = subst (λ s. IsUtf8 (slice_range bytes from s)) all t;
      whole = sym (subst (λ s. slice_range bytes from s ≡ up_to_zero (slice_range bytes from to)) all e.is);
    })))
    (cases_lt stop to)

-- a string goes on after text with no zero byte
pub ends_after : (bytes : List ℕ) (place from end : ℕ) (found : Option ℕ) → place ≤ from → from ≤ end
    → IsZeroFree (slice_range bytes place from) → EndsAt bytes from end found → EndsAt bytes place end found
ends_after bytes place from end None l m zero_free e = lacks-after bytes place from end l m zero_free e
ends_after bytes place from end (Some stop) l m zero_free e = grind (arith, string-after)

pub text_after : (bytes : List ℕ) (place from end : ℕ) (found : Option ℕ) → place ≤ from
    → IsZeroFree (slice_range bytes place from) → EndsAt bytes from end found → IsTextUpTo bytes from found
    → IsTextUpTo bytes place found
text_after bytes place from end None l zero_free e t = tt
text_after bytes place from end (Some stop) l zero_free e t =
    texts-join bytes place from stop l e.order zero_free.text t

pub ruleset refused_heads = (both_ways, lacks_at_head)

-- ---- texts that go on through blocks

-- the parts of a range are text: up to the next block, the blocks, and what is left
pub record AreText (bytes : List ℕ) (start end : ℕ) : Type 0 where
  pub head : IsUtf8 (slice_range bytes start (block_start bytes (next_block start)))
  pub blocks : IsRun Text bytes (next_block start) (last_block end)
  pub rest : IsUtf8 (slice_range bytes (block_start bytes (last_block end)) end)

-- a block of a text is text
block_of_text : (bytes : List ℕ) (start end k : ℕ) → start ≤ k * BLOCK → (k + 1) * BLOCK + 3 ≤ end → end ≤ length bytes
    → IsUtf8 (slice_range bytes start end) → IsBlock Text bytes k
unfolding IsBlock
block_of_text bytes start end k from to within u =
    let bounds = char_start_bounds bytes (k * BLOCK) in
    let rest = (text_cut bytes start (k * BLOCK) end from (omega arith) within u).1 in
    (text_cut bytes (block_start bytes k) ((k + 1) * BLOCK) end (omega arith) to within rest).0

module _ (bytes : List ℕ) (start end : ℕ) (long : next_block start < last_block end) (within : end ≤ length bytes) where
  pub text_has_parts : IsUtf8 (slice_range bytes start end) → AreText bytes start end
  text_has_parts u = record {
    head = (text_cut bytes start (next_block start * BLOCK) end (omega arith) (omega arith) within u).0;
    blocks = λ k from to. block_of_text bytes start end k (omega arith) (omega arith) within u;
    rest = (text_cut bytes start (last_block end * BLOCK) end (omega arith) (omega arith) within u).1;
  }

  pub parts_are_text : AreText bytes start end → IsUtf8 (slice_range bytes start end)
  parts_are_text are =
      let bounds = char_start_bounds bytes (last_block end * BLOCK) in
      let front = of_up_to Text bytes start (next_block start) (last_block end) (omega arith)
      (omega arith) are.head are.blocks in
      texts-join bytes start (block_start bytes (last_block end)) end (omega arith) (omega arith) front are.rest
