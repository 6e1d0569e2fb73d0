-- Laws of program headers of each class: written headers are read back, and headers that were read are written back.
use Rattle.goblin_headers.specs.Common.{Container, Endian, IsRecord, IsSameInEachClass, shaped, Little, Big, refl, lit<}
use Rattle.goblin_base.specs.LayoutLaws.{plain_laws, widened_laws, same_in_each_class}
use Rattle.goblin_headers.specs.ProgramHeader.{program_header32, program_header64, program_header_layout, as32, as64}
use Rattle.goblin_headers.specs.ProgramHeader.{widened32, widened64}

-- the laws follow from the lists of fields
pub program_header32_laws : (order : Endian) → IsRecord (shaped program_header32 order)
program_header32_laws = plain_laws program_header32 (lit< tt) (λ h. refl) (λ h. refl) (λ order bytes. refl)

pub program_header64_laws : (order : Endian) → IsRecord (shaped program_header64 order)
program_header64_laws = plain_laws program_header64 (lit< tt) (λ h. refl) (λ h. refl) (λ order bytes. refl)

-- a program header is the raw one of its class with its fields widened, and different raw ones are widened differently
pub program_header_laws : (class : Container) (order : Endian) → IsRecord (program_header_layout class order)
program_header_laws Little order = widened_laws widened32 as32 (program_header32_laws order) (λ h. refl) (λ raw. refl)
program_header_laws Big order = widened_laws widened64 as64 (program_header64_laws order) (λ h. refl) (λ raw. refl)

pub same_program_headers : IsSameInEachClass program_header_layout
same_program_headers = same_in_each_class program_header_laws
