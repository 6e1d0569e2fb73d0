-- The string ends where the searches find its first zero byte: in the bytes of one block, or else, as these have none,
-- where the rest of it ends.
use Rattle.goblin_text.proofs.Common.{◌≡◌, ◌≤◌, arith, length, slice_range, common_steps, up_to_zero}
use Rattle.goblin_text.proofs.Strings.{string-within}
use Rattle.goblin_text.proofs.names.Names.end_of_name.Goals as goal

pub returns-then-stop-near-clause-end : goal.returns-then-stop-near-clause-end
returns-then-stop-near-clause-end c =
    let bytes = c.args.self.now.bytes in
    let near = c.min-near.result in
    let stop = c.end_of_string-stop in
    let is : slice_range bytes c.args.place stop.result ≡ up_to_zero (slice_range bytes c.args.place near) =
    grind (arith, common_steps) in
    let to : near ≤ c.args.end = grind (arith, common_steps) in
    let short : near ≤ length bytes = omega (arith, to, c.requires.within) in
    record {
      order = stop.ensures.ordered;
      within = omega (arith, c.if-stop-near.true, to);
      is = string-within bytes c.args.place stop.result near c.args.end stop.ensures.ordered c.if-stop-near.true to
          short is;
    }
