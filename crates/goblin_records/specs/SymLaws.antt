-- Laws of symbols of each class: written symbols are read back, and symbols that were read are written back.
use Rattle.std.proofs.Common.{refl, lit<}
use Rattle.goblin_records.specs.Common.{Container, Endian, IsRecord, IsSameInEachClass, shaped, Little, Big}
use Rattle.goblin_records.specs.Common.{plain_laws, widened_laws, same_in_each_class}
use Rattle.goblin_records.specs.Sym.{sym32, sym64, sym_layout, as32, as64, widened32, widened64}

-- the laws follow from the lists of fields
pub sym32_laws : (order : Endian) → IsRecord (shaped sym32 order)
sym32_laws = plain_laws sym32 (lit< tt) (λ s. refl) (λ s. refl) (λ order bytes. refl)

pub sym64_laws : (order : Endian) → IsRecord (shaped sym64 order)
sym64_laws = plain_laws sym64 (lit< tt) (λ s. refl) (λ s. refl) (λ order bytes. refl)

-- a symbol is the raw one of its class with its fields widened, and different raw ones are widened differently
pub sym_laws : (class : Container) (order : Endian) → IsRecord (sym_layout class order)
sym_laws Little order = widened_laws widened32 as32 (sym32_laws order) (λ s. refl) (λ raw. refl)
sym_laws Big order = widened_laws widened64 as64 (sym64_laws order) (λ s. refl) (λ raw. refl)

pub same_symbols : IsSameInEachClass sym_layout
same_symbols = same_in_each_class sym_laws
