-- The bytes of the table hold the record, which its list has at the index.
use Rattle.goblin.specs.Reloc.{reloc_in, reloc_size}
use Rattle.goblin_base.specs.TableLaws.{records-agree}
use Rattle.goblin_c.proofs.Common.{arith, context_of, drop, drop-drop, get_records, le-div_iff_mul-le, length}
use Rattle.goblin_c.proofs.Common.{nat_tests, room_of_fits, slice_get-map, take, ◌*◌}
use Rattle.goblin_c.specs.Relocs.{reloc_ctx}
use Rattle.goblin_records.specs.RelocLaws.{reloc_laws}
use Rattle.std.proofs.Common.{◌/◌}
use Rattle.std.proofs.{Math.Nat.div-mul-le_self, lemmas.List.take-take}
use Rattle.goblin_c.proofs.relocs.reloc_inside.Goals as goal

pub returns : goal.returns
returns c =
    let h = c.args.file.now.header in
    let range = c.args.range.now in
    let own = reloc_size c.args.is_rela (context_of h).container in
    let part = drop range.offset c.args.file.now.bytes.now in
    let count = range.size / own in
    let same = records-agree own (reloc_in (reloc_ctx h c.args.is_rela)) count (take range.size part) part
    (take-take (count * own) range.size part (div-mul-le_self range.size own)) in
    let room = room_of_fits (length c.args.file.now.bytes.now) range.offset range.size in
    let positive = (reloc_laws c.args.is_rela (context_of h).container (context_of h).le).size_positive in
    grind (arith, nat_tests, same, drop-drop, get_records, le-div_iff_mul-le, slice_get-map, room, positive)
