use Rattle.goblin_headers.proofs.Common.{◌≡◌, ℕ, List, and_from, arith, comparing, refl, rules, take, Container, Endian}
use Rattle.goblin_headers.specs.Header.{header_layout}
use Rattle.goblin_headers.proofs.WholeTrips.{each_fits, one_image, reads_back, written_and_read_back, image_of_read}
use Rattle.goblin_headers.proofs.WholeTrips.{headers_refused, new_in_numbers, new_is_of_context, new_is_read_back}
use Rattle.goblin_headers.proofs.WholeTrips.{writes_back}
use Rattle.goblin_headers.proofs.HeaderLemmas.{header_laws, headers_fit, ident_is_written}
use Rattle.goblin_headers.proofs.header.laws.Goals as goal

ident : (class : Container) (order : Endian) (bytes : List ℕ)
    → ((header_layout class order).read bytes).e_ident ≡ take 16 bytes
ident class order bytes = grind arith

pub returns : goal.returns
returns c = record {
  ident = ident;
  places = (λ order. (λ bytes. refl, λ h. refl), λ order. (λ bytes. refl, λ h. refl));
  ident_written = λ class. ident_is_written (header_laws class);
  image = one_image;
  fits = each_fits;
  fits_in_order = λ class. headers_fit (header_laws class);
  refused = headers_refused;
  reads_back = reads_back;
  written = written_and_read_back;
  image_of_read = image_of_read;
  writes_back = writes_back;
  new = new_in_numbers;
  new_context = new_is_of_context;
  new_reads_back = new_is_read_back;
  -- (each of the fourteen fields is equal to itself)
  derived = (λ x y. (search rules, λ same. rw (← same) (search (and_from, comparing, rules) depth 20)), search rules);
}
