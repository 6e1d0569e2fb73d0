use Rattle.goblin_c.proofs.{Common.arith, Common.context_of, ListLemmas.one_context}
use Rattle.goblin_headers.proofs.WholeParts.{sections_of_whole, segments_of_whole}
use Rattle.goblin_c.proofs.laws.whole.Goals as goal

-- the lists with the header that counts only what lies whole in the file are the same where they aren't refused
pub returns : goal.returns
returns c = record {
  keeps = λ bytes h.
      let segments = segments_of_whole bytes h.e_phnum h.e_phoff h.e_shoff h.e_shnum (context_of h) in
      grind (arith, sections_of_whole bytes h.e_shoff h.e_shnum (context_of h), segments);
  same = λ bytes h ctx has named. grind (arith, one_context bytes h ctx has named);
}
