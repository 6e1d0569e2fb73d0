-- Laws of note headers of each class: written headers are read back, and headers that were read are written back.
use Rattle.goblin_records.specs.Common.{Endian, IsRecord, shaped, refl, lit<, plain_laws}
use Rattle.goblin_records.specs.Nhdr.{nhdr32, nhdr64}

-- the laws follow from the lists of fields
pub nhdr32_laws : (order : Endian) → IsRecord (shaped nhdr32 order)
nhdr32_laws = plain_laws nhdr32 (lit< tt) (λ h. refl) (λ h. refl) (λ order bytes. refl)

pub nhdr64_laws : (order : Endian) → IsRecord (shaped nhdr64 order)
nhdr64_laws = plain_laws nhdr64 (lit< tt) (λ h. refl) (λ h. refl) (λ order bytes. refl)
