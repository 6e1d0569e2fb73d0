-- What the definitions of this crate cite most, passed on from one place. Declares nothing.
pub use Rattle.goblin_base.specs.Common.{ComparesAndClones, Field, FieldsFit, Gives, HasFields, IsBytes, IsRecord}
pub use Rattle.goblin_base.specs.Common.{IsSameInEachClass, Layout, Refusal, Refuses, Returns, Shape, buffer_too_short}
pub use Rattle.goblin_base.specs.Common.{field, low_bits, lows_of, name_in, number_at, or_refuse, records, records_in}
pub use Rattle.goblin_base.specs.Common.{refuse_as, refuse_if, room_of_each, shaped, total, values_at, values_of}
pub use Rattle.goblin_base.specs.Common.{widened, widths_of, with_size, ◌>>=◌}
unfoldable pub use Rattle.goblin_base.specs.Common.{Writes, image_of_fields, records_from, records_in, room_of}
pub use Rattle.goblin_base.specs.Eager.{whole_of}
pub use Rattle.goblin_base.specs.Record.{unless_fault}
pub use Rattle.goblin_base.specs.Refusal.{misplaced, refusal_of}
pub use Rattle.goblin_base.specs.Room.{span}
pub use Rattle.goblin_base.specs.declared.container.Container.{Container}
pub use Rattle.goblin_base.specs.declared.container.Container.TheVariants.{Big, Little}
pub use Rattle.goblin_base.specs.declared.container.Ctx.{Ctx}
pub use Rattle.goblin_base.specs.declared.container.Endian.{Endian}
pub use Rattle.goblin_base.specs.declared.error.Error.{Error}
pub use Rattle.goblin_base.specs.declared.error.Error.TheVariants.{BadMagic, Malformed, Scroll}
pub use Rattle.goblin_base.specs.declared.error.Fault.{Fault}
pub use Rattle.goblin_base.specs.declared.error.Fault.TheVariants.{Data, DataType, ElfClass, InvalidClass}
pub use Rattle.goblin_base.specs.declared.error.Fault.TheVariants.{InvalidEndianness, TooSmall}
pub use Rattle.goblin_headers.specs.declared.header.Header.{Header}
pub use Rattle.goblin_headers.specs.declared.program_header.ProgramHeader.{ProgramHeader}
pub use Rattle.goblin_headers.specs.declared.section_header.SectionHeader.{SectionHeader}
pub use Rattle.std.proofs.Common.{lit<, refl}
pub use Rattle.std.specs.Int.{IsBitSet}
pub use Rattle.std.specs.Prelude.{None, Ok, Option, Result, Some, slice_index, take, ◌<◌, ◌^◌}
