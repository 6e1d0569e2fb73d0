-- The file has all program headers that the header states, so the list is that of their records.
use Rattle.goblin_base.proofs.Eager.{all_fit}
use Rattle.goblin_base.specs.{Eager.records_from, Record.records}
use Rattle.goblin_c.proofs.Common.{Ok, arith, context_of, drop, drop-drop, get_records, le-div_iff_mul-le, length}
use Rattle.goblin_c.proofs.Common.{nat_tests, segments_expected, slice_get-map, ◌≡◌}
use Rattle.goblin_c.specs.Segments.{segment_layout_of}
use Rattle.goblin_headers.specs.ProgramHeaderLaws.{program_header_laws}
use Rattle.goblin_c.proofs.segments.segment_inside.Goals as goal

pub returns : goal.returns
unfolding records_from
returns c =
    let h = c.args.file.now.header in
    let bytes = c.args.file.now.bytes.now in
    let l = segment_layout_of h in
    let positive = (program_header_laws (context_of h).container (context_of h).le).size_positive in
    let listed : segments_expected bytes h ≡ Ok (records l.size l.read h.e_phnum (drop h.e_phoff bytes)) =
    grind (arith, nat_tests, all_fit (length bytes) h.e_phoff l.size h.e_phnum positive, le-div_iff_mul-le, positive) in
    grind (arith, listed, positive, drop-drop, get_records, le-div_iff_mul-le, slice_get-map)
