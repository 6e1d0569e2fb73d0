-- The bytes of the table hold the record, which its list has at the index.
use Rattle.goblin_c.proofs.Common.{arith, drop-drop, get_records, le-div_iff_mul-le, nat_tests, slice_get-map}
use Rattle.goblin_records.specs.SymLaws.{sym_laws}
use Rattle.goblin_c.proofs.symbols.symbol_inside.Goals as goal

pub returns : goal.returns
returns c = grind (arith, nat_tests, drop-drop, get_records, le-div_iff_mul-le, slice_get-map, sym_laws)
