use Rattle.goblin_headers.proofs.Common.{headed, header64, and_from, arith, comparing, refl, rules, common_steps}
use Rattle.goblin_headers.proofs.HeaderLemmas.{header64_laws, headers_fit, ident_is_written, one_header_image}
use Rattle.goblin_headers.proofs.WholeTrips.{raw_refused, raw_reads_back, raw_written_and_read_back, raw_writes_back}
use Rattle.goblin_headers.proofs.header64.laws.Goals as goal

pub returns : goal.returns
returns c = record {
  ident = λ order bytes. refl;
  places = λ order. (λ bytes. refl, λ h. refl);
  ident_written = ident_is_written header64_laws;
  image = one_header_image header64_laws;
  fits = headers_fit header64_laws;
  refused = raw_refused 64 (headed header64) (λ order. refl);
  reads_back = raw_reads_back header64_laws;
  written = raw_written_and_read_back header64_laws;
  writes_back = raw_writes_back header64_laws 64 (λ order. refl);
  zeros = λ h is. grind (arith, common_steps);
  -- (each of the fourteen fields is equal to itself)
  derived = (λ x y. (search rules, λ same. rw (← same) (search (and_from, comparing, rules) depth 20)), search rules);
}
