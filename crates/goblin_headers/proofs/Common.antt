-- What the proofs of this crate cite most, passed on from one place. Declares nothing.
pub use Rattle.goblin_base.proofs.Eager.{all_fit, not_too_many, too_many}
pub use Rattle.goblin_base.proofs.StepLemmas.{found, passed, step}
pub use Rattle.goblin_base.specs.Common.{Gives, Returns, fields_at, size_of_fields}
unfoldable pub use Rattle.goblin_base.specs.Eager.{records_from}
pub use Rattle.goblin_base.specs.RecordLaws.{Writes-err, Writes-ok, fits-room_of, room_of-few, room_of_fits}
pub use Rattle.goblin_base.specs.RecordLaws.{unless_fault-err, unless_fault-is}
unfoldable pub use Rattle.goblin_base.specs.Strtab.{has_name}
pub use Rattle.goblin_headers.specs.Common.{BadMagic, Big, Container, Ctx, Data, DataType, ElfClass, Endian, Error}
pub use Rattle.goblin_headers.specs.Common.{Field, Header, InvalidClass, IsBytes, Layout, Malformed, Scroll}
pub use Rattle.goblin_headers.specs.Common.{SectionHeader, TooSmall, lows_of, number_at, refuse_if, total, unless_fault}
pub use Rattle.goblin_headers.specs.Common.{values_at, values_of, widened, widths_of, with_size}
unfoldable pub use Rattle.goblin_headers.specs.Common.{Writes, image_of_fields, room_of}
pub use Rattle.goblin_headers.specs.Header.{as32, as64, class_of, headed, header32, header64, header_layout}
pub use Rattle.goblin_headers.specs.Header.{order_named, order_of, widened32, widened64}
pub use Rattle.goblin_headers.specs.SectionHeader.{section_header_of, section_header_size}
pub use Rattle.goblin_headers.specs.SectionHeaderLaws.{section_header_laws}
pub use Rattle.goblin_headers.specs.WriteHeader.{WritesBy}
unfoldable pub use Rattle.goblin_headers.specs.WriteHeader.{WritesHeader, WritesInOrder}
pub use Rattle.std.proofs.Common.{Bool, Err, IfErr, IsOk, List, None, Ok, Result, Some, [], ap, arith, codes, drop}
pub use Rattle.std.proofs.Common.{false, if◌then◌else◌, length, max, min, nat_eq, nat_lt, not, refl, rules, slice_index}
pub use Rattle.std.proofs.Common.{subst, suc, sym, take, true, zero, ℕ, ◌*◌, ◌++◌, ◌+◌, ◌-◌, ◌/◌, ◌<◌, ◌==◌, ◌∙◌, ◌≡◌}
pub use Rattle.std.proofs.Common.{◌≤◌}
pub use Rattle.std.proofs.Math.Nat.{le-div_iff_mul-le}
pub use Rattle.std.proofs.lemmas.Bool.{and_from}
pub use Rattle.std.proofs.lemmas.Bool.Decides.{nat_tests}
pub use Rattle.std.proofs.lemmas.Grind.{common_steps}
pub use Rattle.std.proofs.lemmas.Iterator.Consumers.{YieldsList-from_first}
pub use Rattle.std.proofs.lemmas.Iterator.Search.{find_from_yields_List, position_from_yields_List}
pub use Rattle.std.specs.Cmp.Rules.{comparing}
