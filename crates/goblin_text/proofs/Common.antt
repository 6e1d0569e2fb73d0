-- What the proofs of this crate cite most, passed on from one place. Declares nothing.
unfoldable pub use Rattle.goblin.specs.Pieces.{first_bad, piece, piece_start}
pub use Rattle.goblin.specs.Refusal.{malformed}
pub use Rattle.goblin.specs.Strtab.{IsRange, table_of}
unfoldable pub use Rattle.goblin.specs.Strtab.{walked}
pub use Rattle.goblin.specs.TextLaws.{name-later, name-past, names_are_plain, ranges-join, table_of-text, texts-join}
pub use Rattle.goblin.specs.Utf8.{invalid_utf8}
pub use Rattle.goblin_base.proofs.FirstLemmas.{get_in_range, length_of_range}
pub use Rattle.goblin_base.proofs.PartsLemmas.{parts_text_more}
pub use Rattle.goblin_base.specs.Entries.{CountsAtLeast, Reads}
pub use Rattle.goblin_text.specs.Accepted.{parts_text, relocs_text, symbols_text}
pub use Rattle.goblin_text.specs.BlockRuns.{EndsAt, IsLong, IsOfKind, IsRun, IsRunEnd, IsTextUpTo, IsZeroFree}
pub use Rattle.goblin_text.specs.BlockRuns.{LacksText, block_start, blocks, last_block, next_block}
unfoldable pub use Rattle.goblin_text.specs.BlockRuns.{AreRunEnds, IsBlock, after_continuation, char_start, unknown}
unfoldable pub use Rattle.goblin_text.specs.BlockRuns.{up_to_zero}
pub use Rattle.goblin_text.specs.Common.{BLOCK, Header, Permissive, Refusal, SectionHeader, Strict, StringTable}
pub use Rattle.goblin_text.specs.Common.{refuse_as, ◌>>=◌}
unfoldable pub use Rattle.goblin_text.specs.Common.{strtab_of}
pub use Rattle.goblin_text.specs.Shown.{each_shown, name_at, reloc_lines, section_lines, sizes_checked, symbol_lines}
unfoldable pub use Rattle.goblin_text.specs.Shown.{relocs_shown, symbols_shown}
pub use Rattle.goblin_text.specs.ShownLines.{printable, printed}
pub use Rattle.goblin_text.specs.StringRanges.{strings_in, text_table}
pub use Rattle.goblin_text.specs.TargetState.{State, Stops}
unfoldable pub use Rattle.goblin_text.specs.TargetState.{held}
pub use Rattle.goblin_text.specs.declared.block_runs.Kind.{Kind}
pub use Rattle.goblin_text.specs.declared.block_runs.Kind.TheVariants.{Text, ZeroFree}
pub use Rattle.std.proofs.Common.{Bool, Err, List, None, Ok, Option, Result, Some, [], ap, append-nil, append_assoc}
pub use Rattle.std.proofs.Common.{arith, drop, false, filter, get_or, if◌then◌else◌, inl, inr, length, length-append}
pub use Rattle.std.proofs.Common.{lit<, ltb, map, min, not, refl, replicate, rules, set, slice_get, slice_range, subst}
pub use Rattle.std.proofs.Common.{suc, sym, take, true, vec_len, zero, ℕ, ⊎_elim, ◌*◌, ◌++◌, ◌+◌, ◌-◌, ◌<◌, ◌==◌, ◌^◌}
pub use Rattle.std.proofs.Common.{◌∙◌, ◌∷◌, ◌≡◌, ◌≢◌, ◌≤◌}
pub use Rattle.std.proofs.KnownBytes.{Appends-trans, Consumes-kept, Consumes-trans, Keeps-refl, append_known-grown}
pub use Rattle.std.proofs.Math.Seq.{drop-append_seam, take-add, take-append-add, take-append_seam}
pub use Rattle.std.proofs.lemmas.Bool.{both_ways, cases_eq, cases_lt, eq-eqb, false_from_ne_true}
pub use Rattle.std.proofs.lemmas.Bool.Decides.{nat_tests}
pub use Rattle.std.proofs.lemmas.Grind.{common_steps}
pub use Rattle.std.proofs.lemmas.List.{drop-drop, drop-take, drop_more, flat_map_more, get_or-take, get_or_past}
pub use Rattle.std.proofs.lemmas.List.{length-map, length-take-le, take-append-le, take-take, take_all}
pub use Rattle.std.proofs.lemmas.Str.{IsCharBoundary-after_ascii, IsCharBoundary-at_seam, IsCharBoundary-from_rest}
pub use Rattle.std.proofs.lemmas.Str.{IsCharBoundary-from_take, IsCharBoundary-start, IsUtf8-append, IsUtf8-drop}
pub use Rattle.std.proofs.lemmas.Str.{IsUtf8-from_is_utf8, IsUtf8-take, encodes-append, is_utf8-from_IsUtf8}
pub use Rattle.std.proofs.lemmas.Str.{len_utf8_bounds, length-encode, utf8_valid_len-IsValidUpTo}
pub use Rattle.std.specs.Io.KnownBytes.{Appends, Consumes, Keeps, append_known}
pub use Rattle.std.specs.List.{concat, position_or_len}
pub use Rattle.std.specs.Prelude.{encode_utf8_all, slice_index, vec_items}
pub use Rattle.std.specs.Str.{IsCharBoundary, IsUtf8, IsValidUpTo, is_utf8}
unfoldable pub use lib.Utf8.{encode}
