use Rattle.goblin_headers.proofs.Common.{headed, header32, and_from, arith, comparing, refl, rules, common_steps}
use Rattle.goblin_headers.proofs.HeaderLemmas.{header32_laws, headers_fit, ident_is_written, one_header_image}
use Rattle.goblin_headers.proofs.WholeTrips.{raw_refused, raw_reads_back, raw_written_and_read_back, raw_writes_back}
use Rattle.goblin_headers.proofs.header32.laws.Goals as goal

pub returns : goal.returns
returns c = record {
  ident = λ order bytes. refl;
  places = λ order. (λ bytes. refl, λ h. refl);
  ident_written = ident_is_written header32_laws;
  image = one_header_image header32_laws;
  fits = headers_fit header32_laws;
  refused = raw_refused 52 (headed header32) (λ order. refl);
  reads_back = raw_reads_back header32_laws;
  written = raw_written_and_read_back header32_laws;
  writes_back = raw_writes_back header32_laws 52 (λ order. refl);
  zeros = λ h is. grind (arith, common_steps);
  -- (each of the fourteen fields is equal to itself)
  derived = (λ x y. (search rules, λ same. rw (← same) (search (and_from, comparing, rules) depth 20)), search rules);
}
