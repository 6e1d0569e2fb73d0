-- What the definitions of this crate cite most, passed on from one place. Declares nothing.
pub use Rattle.goblin_base.specs.Common.{Clones, ComparesAndClones, Gives, HasFields, HasPlaces, IsBytes}
pub use Rattle.goblin_base.specs.Common.{IsRecord, IsSameInEachClass, Layout, Refusal, Refuses, Shape, Writes}
pub use Rattle.goblin_base.specs.Common.{buffer_too_short, converted, field, low_bits, name_in, number_at, shaped}
pub use Rattle.goblin_base.specs.Common.{values_of, widened, zero}
unfoldable pub use Rattle.goblin_base.specs.Common.{number, records_from, spelled}
pub use Rattle.goblin_base.specs.Layout.{widths, word_size}
pub use Rattle.goblin_base.specs.LayoutLaws.{converted_laws, plain_laws, same_in_each_class, shape_laws, widened_laws}
pub use Rattle.goblin_base.specs.Signed.{FitsSigned, complement, signed_low, signed_of}
pub use Rattle.goblin_base.specs.declared.container.Container.{Container}
pub use Rattle.goblin_base.specs.declared.container.Container.TheVariants.{Big, Little}
pub use Rattle.goblin_base.specs.declared.container.Endian.{Endian}
pub use Rattle.goblin_records.specs.declared.reloc.Reloc.{Reloc}
pub use Rattle.goblin_records.specs.declared.reloc.RelocCtx.{RelocCtx}
pub use Rattle.std.proofs.Common.{ap, arith, lit<, refl, sym, ◌∙◌}
