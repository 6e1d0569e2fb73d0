-- The file has all section headers that the header states, so the list is that of their records.
use Rattle.goblin.specs.SectionHeaders.{section_headers_from, section_headers_from_tested}
use Rattle.goblin_base.proofs.Eager.{all_fit}
use Rattle.goblin_base.specs.Eager.{records_in}
use Rattle.goblin_c.proofs.Common.{arith, context_of, drop-drop, get_records, le-div_iff_mul-le, length, nat_tests}
use Rattle.goblin_c.proofs.Common.{room_of_fits, slice_get-map}
use Rattle.goblin_headers.specs.SectionHeaderLaws.{section_header_laws}
use Rattle.goblin_c.proofs.sections.section_inside.Goals as goal

pub returns : goal.returns
unfolding section_headers_from section_headers_from_tested records_in
returns c =
    let h = c.args.file.now.header in
    let bytes = c.args.file.now.bytes.now in
    let room = room_of_fits (length bytes) h.e_shoff in
    let fit = all_fit (length bytes) h.e_shoff in
    let positive = (section_header_laws (context_of h).container (context_of h).le).size_positive in
    grind (arith, nat_tests, room, fit, drop-drop, get_records, le-div_iff_mul-le, slice_get-map, positive)
