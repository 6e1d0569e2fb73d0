-- Laws of section headers of each class: written headers are read back, and headers that were read are written back.
use Rattle.goblin_headers.specs.Common.{Container, Endian, IsRecord, IsSameInEachClass, shaped, Little, Big, refl, lit<}
use Rattle.goblin_base.specs.LayoutLaws.{plain_laws, widened_laws, same_in_each_class}
use Rattle.goblin_headers.specs.SectionHeader.{section_header32, section_header64, section_header_layout, as32, as64}
use Rattle.goblin_headers.specs.SectionHeader.{widened32, widened64}

-- the laws follow from the lists of fields
pub section_header32_laws : (order : Endian) → IsRecord (shaped section_header32 order)
section_header32_laws = plain_laws section_header32 (lit< tt) (λ h. refl) (λ h. refl) (λ order bytes. refl)

pub section_header64_laws : (order : Endian) → IsRecord (shaped section_header64 order)
section_header64_laws = plain_laws section_header64 (lit< tt) (λ h. refl) (λ h. refl) (λ order bytes. refl)

-- a section header is the raw one of its class with its fields widened, and different raw ones are widened differently
pub section_header_laws : (class : Container) (order : Endian) → IsRecord (section_header_layout class order)
section_header_laws Little order = widened_laws widened32 as32 (section_header32_laws order) (λ h. refl) (λ raw. refl)
section_header_laws Big order = widened_laws widened64 as64 (section_header64_laws order) (λ h. refl) (λ raw. refl)

pub same_section_headers : IsSameInEachClass section_header_layout
same_section_headers = same_in_each_class section_header_laws
