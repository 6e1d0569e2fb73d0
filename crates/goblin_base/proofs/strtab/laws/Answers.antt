-- The function has no code: each clause is a lemma about definitions. LawLemmas and TextLaws prove those of UTF-8,
-- tables and look-ups, DigitsLemmas that of binary digits.
use Rattle.goblin_base.proofs.DigitsLemmas.{digits_count}
use Rattle.goblin_base.proofs.LawLemmas.{text_is_utf8, closed_form, joins_again, permissive_accepts}
use Rattle.goblin_base.proofs.LawLemmas.{strict_is_permissive, look_up_has_plain, strict_look_up_is_plain}
use Rattle.goblin_base.proofs.LawLemmas.{depends_on_range, ranges_refused, strings_join}
use Rattle.goblin_base.proofs.WantedLemmas.{names_are_read, pieces_are_compared, pieces_begin}
use Rattle.goblin_base.specs.TextLaws.{text_is_taken, names_are_plain}
use Rattle.goblin_base.proofs.strtab.laws.Goals as goal

pub returns : goal.returns
returns c = record {
  text_is_utf8 = text_is_utf8;
  closed_form = closed_form;
  joins = joins_again;
  permissive_accepts = permissive_accepts;
  strict_is_permissive = strict_is_permissive;
  look_up_has_plain = look_up_has_plain;
  strict_look_up_is_plain = strict_look_up_is_plain;
  depends_on_range = depends_on_range;
  ranges_refused = ranges_refused;
  text_is_taken = text_is_taken;
  names_are_plain = names_are_plain;
  digits_count = digits_count;
  strings_join = strings_join;
  names_are_read = names_are_read;
  pieces_are_compared = pieces_are_compared;
  pieces_begin = pieces_begin;
}
