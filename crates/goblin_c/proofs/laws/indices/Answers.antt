use Rattle.goblin_c.proofs.{Common.arith, Common.length-map, Common.slice_get-map, ListLemmas.context_is_the_headers}
use Rattle.goblin_c.proofs.{ListLemmas.one_context}
use Rattle.goblin_c.proofs.laws.indices.Goals as goal

pub returns : goal.returns
returns c = record {
  sections = λ bytes h ctx has named. grind (arith, one_context bytes h ctx has named, slice_get-map, length-map);
  segments = λ bytes h ctx has named. grind (arith, one_context bytes h ctx has named, slice_get-map, length-map);
  symbols = λ bytes h ctx range has named. grind (arith, one_context bytes h ctx has named, slice_get-map, length-map);
  relocs = λ bytes h ctx range is_rela has named.
      grind (arith, one_context bytes h ctx has named, context_is_the_headers bytes h has, slice_get-map, length-map);
}
