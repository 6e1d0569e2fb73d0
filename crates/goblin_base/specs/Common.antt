-- The names that most contracts and proofs of records cite, passed on from one place. Declares nothing.
pub use Rattle.goblin_base.specs.Derives.{Clones, ComparesAndClones}
pub use Rattle.goblin_base.specs.Eager.{room_of_each, whole_of}
unfoldable pub use Rattle.goblin_base.specs.Eager.{records_from, records_in}
pub use Rattle.goblin_base.specs.Fields.{Field, FieldsFit, field, fields_at, lows_of, size_of_fields, total, values_at}
pub use Rattle.goblin_base.specs.Fields.{values_of, widths_of}
unfoldable pub use Rattle.goblin_base.specs.Fields.{image_of_fields}
pub use Rattle.goblin_base.specs.Layout.{EachReadFits, FitsExactly, HasFields, HasPlaces, IsOneImage, IsRecord}
pub use Rattle.goblin_base.specs.Layout.{IsSameInEachClass, Layout, Obeys, Shape, converted, low_bits, shaped, widened}
pub use Rattle.goblin_base.specs.Layout.{word_size, zero}
pub use Rattle.goblin_base.specs.Number.{IsBytes, ReadsSpelling, SpellsBack, SpellsWidth, number_at}
unfoldable pub use Rattle.goblin_base.specs.Number.{number, spelled}
pub use Rattle.goblin_base.specs.Record.{unless_fault}
unfoldable pub use Rattle.goblin_base.specs.Record.{Writes, read_within, records}
pub use Rattle.goblin_base.specs.Refusal.{Gives, Refusal, Refuses, Returns, buffer_too_short, malformed, misplaced}
pub use Rattle.goblin_base.specs.Refusal.{out_of_memory, refusal_of}
unfoldable pub use Rattle.goblin_base.specs.Room.{room_of}
pub use Rattle.goblin_base.specs.Steps.{or_refuse, refuse_as, refuse_if, with_size, ◌>>=◌}
pub use Rattle.goblin_base.specs.Texts.{Facts, KindsAreFound, are_short, facts_of, facts_text, fault_facts, fault_text}
pub use Rattle.goblin_base.specs.Texts.{is_kind, kind_number, kind_text, kind_with, name_in, numbers, part_text}
pub use Rattle.goblin_base.specs.Texts.{parts_text, prefix, refusal_facts, refusal_text, with_item}
pub use Rattle.goblin_base.specs.declared.container.Endian.{Endian}
pub use Rattle.goblin_base.specs.declared.error.Error.{Error}
pub use Rattle.goblin_base.specs.declared.options.ParseMode.{ParseMode}
pub use Rattle.goblin_base.specs.declared.options.ParseMode.TheVariants.{Permissive, Strict}
pub use Rattle.goblin_base.specs.declared.utf8.Awaited.{Awaited}
pub use Rattle.std.proofs.Common.{ap, arith, refl, subst, suc, sym, ◌∙◌}
pub use Rattle.std.proofs.Math.Nat.{mod-eq_of_lt, mod-lt, one-le-pow, pow-suc}
pub use Rattle.std.proofs.Math.Seq.{take-add}
pub use Rattle.std.proofs.lemmas.Bool.{cases_lt}
pub use Rattle.std.proofs.lemmas.Bool.Decides.{nat_tests}
pub use Rattle.std.proofs.lemmas.List.{append-nil, append_assoc, drop-append-le, drop-drop, drop-take, drop_at}
pub use Rattle.std.proofs.lemmas.List.{get_or-drop, get_or-reverse, get_or-take, get_or_past, length-append}
pub use Rattle.std.proofs.lemmas.List.{length-drop, length-reverse, length-take, length-take-le, reverse-reverse}
pub use Rattle.std.proofs.lemmas.List.{set-get_or, take-append-drop, take-append-le, take-take, take_all, take_at}
pub use Rattle.std.specs.Int.{is_in_range, leading_zeros, trailing_zeros, w64}
pub use Rattle.std.specs.List.{All, before_first, filter, find, flat_map, join_with_byte, list_all, list_any}
pub use Rattle.std.specs.List.{position_or_len, range_with_len}
pub use Rattle.std.specs.Result.{result_ok}
pub use Rattle.std.specs.Str.{IsCharBoundary, IsUtf8, IsValidUpTo, bytes_eq, continuation_len, error_len, is_utf8}
pub use Rattle.std.specs.Str.{valid_up_to}
pub use Rattle.std.specs.Str.Lossy.{second_byte_max, second_byte_min, utf8_error_len}
