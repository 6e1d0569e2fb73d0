-- The table is the one that the library finds, because it is that of the range's bytes. A mode that isn't permissive is
-- strict, and in strict mode these bytes are tested.
use Rattle.goblin_text.proofs.Common.{◌≡◌, ◌∙◌, ap, arith, length, slice_range, sym, both_ways, common_steps}
use Rattle.goblin_text.proofs.Common.{IsRange, strtab_of, table_of, walked}
use Rattle.goblin_text.proofs.StringTables.{is_strict, table_is}
use Rattle.goblin_text.proofs.names.Names.table.Goals.{then-not-is_permissive+in_ok-refuse_unless_text}
use Rattle.goblin_text.proofs.names.Names.table.Goals.{else-not-is_permissive}
use Rattle.goblin_text.proofs.names.Names.table.Goals as goal

pub returns-in_err-start-clause-given : goal.returns-in_err-start-clause-given
unfolding strtab_of
returns-in_err-start-clause-given c = grind (arith, common_steps)

pub returns-clause-given : goal.returns-clause-given
unfolding walked
returns-clause-given c =
    let bytes = c.args.self.now.bytes in
    let table = slice_range bytes c.in_ok-start.start c.in_ok-start.end in
    let size : length bytes ≡ c.len.result =
    sym (c.len.ensures.value ∙ ap (λ names. length names.bytes) c.self.view_is) in
    let stands : IsRange c.args.opts.now.parse_mode bytes c.args.offset c.args.size c.in_ok-start.start
    c.in_ok-start.end =
    grind (arith, common_steps, c.in_ok-start.ensures.ok bytes size) in
    table_is _ _ _ _ _ _ stands
    ∙ elim c.if-not-is_permissive.branch [
      | then-not-is_permissive+in_ok-refuse_unless_text w ↦
          let strict = is_strict _ (λ p. both_ways _ w.if-not-is_permissive.true (c.is_permissive.ensures.1 p)) in
          ap (λ m. table_of m table 0) strict ∙ grind (arith, common_steps)
      | else-not-is_permissive w ↦ ap (λ m. table_of m table 0) (c.is_permissive.ensures.0 w.if-not-is_permissive.false)
    ]
