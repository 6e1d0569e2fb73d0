-- What the proofs of this crate cite most, passed on from one place. Declares nothing.
pub use Rattle.goblin_base.specs.Ascii.{ends_run, lowest_set}
pub use Rattle.goblin_base.specs.Entries.{CountsAtLeast, entries_between, place_of, places_of, text_of}
pub use Rattle.goblin_base.specs.Marks.{AreAscii, AreMarks, HaveMarks, marks_before}
pub use Rattle.goblin_base.specs.Pieces.{entries}
unfoldable pub use Rattle.goblin_base.specs.Pieces.{entries_from, entry_text, first_bad, is_bad_start, is_entry_place}
unfoldable pub use Rattle.goblin_base.specs.Pieces.{is_readable, piece, piece_end, piece_start, text_at}
pub use Rattle.goblin_base.specs.Record.{unless_fault}
unfoldable pub use Rattle.goblin_base.specs.Record.{read_within, records}
pub use Rattle.goblin_base.specs.Refusal.{Refusal, malformed}
pub use Rattle.goblin_base.specs.Scan.{IsDamaged, IsScan, IsWalkedTo, scan_end}
pub use Rattle.goblin_base.specs.Search.{IsLastUpTo, IsRising, digits_within}
pub use Rattle.goblin_base.specs.Steps.{or_refuse, refuse_as, refuse_if, ◌>>=◌}
pub use Rattle.goblin_base.specs.Strtab.{StringTable, is_text_of, look_up, plain, table_of}
unfoldable pub use Rattle.goblin_base.specs.Strtab.{has_name, range_in, strtab_of, walked}
pub use Rattle.goblin_base.specs.Texts.{Facts, facts_of, is_kind, part_text, parts_text}
pub use Rattle.goblin_base.specs.Utf8.{after_byte, awaits_first, invalid_utf8}
unfoldable pub use Rattle.goblin_base.specs.Wanted.{IsAlike, can_be_string, is_apart, is_piece, stands_at, starts_piece}
pub use Rattle.goblin_base.specs.declared.error.Error.{Error}
pub use Rattle.goblin_base.specs.declared.options.ParseMode.{ParseMode}
pub use Rattle.goblin_base.specs.declared.options.ParseMode.TheVariants.{Permissive, Strict}
pub use Rattle.goblin_base.specs.declared.utf8.Awaited.{Awaited}
pub use Rattle.goblin_base.specs.declared.walk.Found.TheVariants.{Fault}
pub use Rattle.std.proofs.Common.{Bool, Err, IfSome, List, None, Ok, Option, Result, Some, [], ap, append-nil}
pub use Rattle.std.proofs.Common.{append_assoc, arith, bit_and, bit_or, cond, drop, eqb, false, get_or, if◌then◌else◌}
pub use Rattle.std.proofs.Common.{inl, inr, leb, length, length-set, lit<, ltb, map, max, min, ne_eqb, not, refl}
pub use Rattle.std.proofs.Common.{replicate, reverse, rules, set, shr-shr, slice_index, subst, suc, sym, take, true, w8}
pub use Rattle.std.proofs.Common.{zero, ℕ, ⊎_elim, ◌%◌, ◌&&◌, ◌*◌, ◌++◌, ◌+◌, ◌-◌, ◌/◌, ◌<◌, ◌==◌, ◌^◌, ◌||◌, ◌↔◌, ◌∙◌}
pub use Rattle.std.proofs.Common.{◌∷◌, ◌≡◌, ◌≢◌, ◌≤◌, ◌⊎◌}
pub use Rattle.std.proofs.Math.Nat.{div-div-eq-div-mul, div-eq_of_lt, div-eq_of_lt-le, div-one, le-div_iff_mul-le}
pub use Rattle.std.proofs.Math.Nat.{mod-lt, one-mul, pow-le-pow_right, pow-suc, pow-zero}
pub use Rattle.std.proofs.lemmas.Bool.{and_from, and_parts, and_right, both_ways, cases_Bool, cases_lt, cond-false}
pub use Rattle.std.proofs.lemmas.Bool.{cond-true, eq-eqb, eqb-true, false_from_ne_true, false≢true, le-leb, le-ltb}
pub use Rattle.std.proofs.lemmas.Bool.{leb-false, leb-true, lt-leb, lt-ltb, ltb-false, ltb-true, not-false, not-true}
pub use Rattle.std.proofs.lemmas.Bool.{not_from_false, not_from_true, or_parts}
pub use Rattle.std.proofs.lemmas.Bool.Decides.{nat_tests}
pub use Rattle.std.proofs.lemmas.Grind.{common_steps}
pub use Rattle.std.proofs.lemmas.List.{drop-drop, drop-map, drop-set, drop-take, drop_all, drop_more, get_or-drop}
pub use Rattle.std.proofs.lemmas.List.{get_or-map, get_or-take, get_or_past, length-drop, length-map, length-reverse}
pub use Rattle.std.proofs.lemmas.List.{length-take, length-take-le, set_split, take-append-drop, take_all, take_more}
pub use Rattle.std.proofs.lemmas.List.{take_rest}
pub use Rattle.std.proofs.lemmas.List.Folds.{list_any_at, list_any_none, prefix_len-append}
pub use Rattle.std.proofs.lemmas.List.FromFn.{get_or-range_with_len, length-range_with_len}
pub use Rattle.std.proofs.lemmas.List.Sums.{fails_before_first, passes_at_first, position_or_len_is}
pub use Rattle.std.proofs.lemmas.List.Sums.{prefix_len-le-length}
pub use Rattle.std.proofs.lemmas.Nat.{and_mask, div_below, leading_length, rows}
pub use Rattle.std.proofs.lemmas.Simd.{bit_mask_l, bitmask_splat, chunk-drop, first_set_mask_l, get_or-chunk}
pub use Rattle.std.proofs.lemmas.Simd.{get_or-zip2, length-chunk, length-zip2, map-map, mask_l-lt, mask_l-mod}
pub use Rattle.std.proofs.lemmas.Simd.{run_in_chunk_fails, run_in_chunk_le, run_in_chunk_stops, tops_compared}
pub use Rattle.std.proofs.lemmas.Simd.{zip2_of_maps, zip2_splat, zip2_splat_left}
pub use Rattle.std.proofs.lemmas.Slice.Eq.{bytes_eq-Decides}
pub use Rattle.std.proofs.lemmas.Str.{IsUtf8-from_ascii, IsUtf8-from_is_utf8, IsUtf8-nil, is_utf8-from_IsUtf8}
pub use Rattle.std.specs.Bool.{Decides, IsTrue}
pub use Rattle.std.specs.Borrow.{Bor}
pub use Rattle.std.specs.Fmt.{HasWritten, IsPlainFormatter, digit_glyph, digits_onto}
unfoldable pub use Rattle.std.specs.Fmt.{digits}
pub use Rattle.std.specs.List.{EachIndex, before_first, filter, find, join_with_byte, list_any, position}
pub use Rattle.std.specs.List.{position_or_len, prefix_len, range_with_len, slice_get, slice_range}
pub use Rattle.std.specs.Option.{MatchOption, option_map, unwrap_or}
pub use Rattle.std.specs.Result.{IsOk, is_ok, result_ok}
pub use Rattle.std.specs.Simd.Lanes.{mask_l}
pub use Rattle.std.specs.Str.{IsAscii, IsCharBoundary, IsUtf8, bytes_eq, continuation_len, is_utf8}
pub use Rattle.std.specs.Str.Lossy.{second_byte_max, second_byte_min}
pub use lib.Lanes.{chunk, top}
