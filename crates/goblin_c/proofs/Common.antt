-- What the proofs of this crate cite most, passed on from one place. Declares nothing.
pub use Rattle.goblin_base.proofs.Eager.{get_records}
pub use Rattle.goblin_base.specs.RecordLaws.{fits-room_of, room_of_fits}
pub use Rattle.goblin_base.specs.Texts.{facts_of}
pub use Rattle.goblin_c.specs.Buffers.{laid}
pub use Rattle.goblin_c.specs.Common.{GoblinHeader, GoblinRange, refuse_as, ◌>>=◌}
pub use Rattle.goblin_c.specs.Dynamic.{entries_left}
pub use Rattle.goblin_c.specs.File.{context_of}
pub use Rattle.goblin_c.specs.Results.{RefusalAt}
pub use Rattle.goblin_c.specs.Segments.{segments_expected}
pub use Rattle.goblin_c.specs.Strings.{closed_len, string_expected}
pub use Rattle.std.proofs.Common.{Err, List, None, Ok, Option, Result, Some, [], ap, arith, drop, get_or, length, map}
pub use Rattle.std.proofs.Common.{refl, rules, slice_get, suc, sym, take, true, zero, ℕ, ◌*◌, ◌++◌, ◌+◌, ◌-◌, ◌<◌, ◌==◌}
pub use Rattle.std.proofs.Common.{◌∙◌, ◌∷◌, ◌≡◌, ◌≤◌}
pub use Rattle.std.proofs.Math.Nat.{le-div_iff_mul-le, mod-eq_of_lt}
pub use Rattle.std.proofs.lemmas.Bool.Decides.{nat_tests}
pub use Rattle.std.proofs.lemmas.Iterator.Adapters.{YieldsList-from_skip}
pub use Rattle.std.proofs.lemmas.Iterator.Consumers.{YieldsList-from_first}
pub use Rattle.std.proofs.lemmas.Iterator.Search.{position_from_yields_List}
pub use Rattle.std.proofs.lemmas.List.{drop-drop, length-drop, length-map, length-take, length-take-le, take_all}
pub use Rattle.std.proofs.lemmas.Option.{get_or_from_slice_get, slice_get-get_or, slice_get-map, slice_get_within}
pub use Rattle.std.specs.Bool.{Decides}
pub use Rattle.std.specs.List.{position_or_len}
pub use Rattle.std.specs.Option.{option_map}
unfoldable pub use Rattle.goblin_c.specs.Common.{room_of}
