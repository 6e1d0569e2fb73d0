-- What is put is read again, and no other byte changes.
--
-- The item that a call stores is read from the bytes at its place (`item_read`). After a put these are the record's
-- image (`own_bytes`), which is read as the record. The call finds one there if the list has as many items as before
-- (`still_there`).
use Rattle.goblin.specs.Header.{header_layout, header_size}
use Rattle.goblin_base.proofs.{ByteorderLemmas.length-part, Eager.length_records}
use Rattle.goblin_base.specs.FieldLaws.{IsBytes-part, number_at-lt, number_at-with_number}
use Rattle.goblin_base.specs.{Number.IsBytes, Number.number_at, Number.spelled, NumberLaws.length-spelled}
use Rattle.goblin_base.specs.{NumberLaws.spelled-number, Place.with_number, declared.container.Endian.Endian}
use Rattle.goblin_c.proofs.Common.{Err, GoblinHeader, GoblinRange, List, None, Ok, Option, RefusalAt, Result, Some}
use Rattle.goblin_c.proofs.Common.{arith, context_of, drop, drop-drop, fits-room_of, get_or, length, length-drop}
use Rattle.goblin_c.proofs.Common.{length-map, length-take, length-take-le, mod-eq_of_lt, nat_tests, refl, refuse_as}
use Rattle.goblin_c.proofs.Common.{room_of_fits, slice_get-get_or, slice_get_within, take, take_all, true, ℕ, ◌*◌, ◌++◌}
use Rattle.goblin_c.proofs.Common.{◌+◌, ◌>>=◌, ◌≡◌, ◌≤◌}
use Rattle.goblin_c.proofs.ListLemmas.{Read, entries, item_read, relocs, same_items, sections, segments, symbols}
use Rattle.goblin_c.proofs.PlaceLemmas.{numbers_lie_in_range}
use Rattle.goblin_c.specs.File.{FitsClass, HeadersAreRead, header_expected, header_from_c, named_ctx}
use Rattle.goblin_c.specs.Laws.{CountsStay, PutsAreRead, PutsChangeOne, ReadsArePut, UnfitAreRefused}
use Rattle.goblin_c.specs.Numbers.{NumbersArePut, NumbersInRangesArePut, is_width, number_expected, number_in_expected}
use Rattle.goblin_c.specs.Puts.{ChangesOnly, put_at, put_if_there, put_unless, with_bytes}
use Rattle.goblin_c.specs.{Common.Ctx, Common.Error, Common.Layout, Common.refusal_of, Dynamic.dyn_from_c}
use Rattle.goblin_c.specs.{Items.count_of, Items.each_converted, Items.item_at, Relocs.reloc_from_c}
use Rattle.goblin_c.specs.{Results.refusal_converted, Results.refused_at, Sections.section_from_c}
use Rattle.goblin_c.specs.{Segments.segment_from_c, Symbols.symbol_from_c, declared.misfit.Misfit.Misfit}
use Rattle.goblin_headers.proofs.WholeTrips.{reads_back}
use Rattle.std.proofs.{Common.append_assoc, Common.length-append, Math.Seq.take-append_seam, lemmas.List.drop_at}
use Rattle.std.proofs.{lemmas.List.take-append-drop}

-- the bytes after some were written over them at an offset
module _ (bytes : List ℕ) (place : ℕ) (own : List ℕ) (size : ℕ) (long : length own ≡ size)
    (room : place + size ≤ length bytes) where
  front_is : length (take place bytes) ≡ place
  front_is = grind (arith, nat_tests, length-take-le)

  -- there they are
  pub own_bytes : take size (drop place (with_bytes bytes place own)) ≡ own
  own_bytes = grind (arith, nat_tests, append_assoc, drop_at, front_is, take-append_seam)

  pub others_stay : ChangesOnly place size bytes (with_bytes bytes place own)
  others_stay = grind (arith, nat_tests, append_assoc, drop_at, front_is, length-append, length-drop, take-append_seam)

-- written over themselves they don't change
pub rewritten : (bytes : List ℕ) (place size : ℕ)
    → place + size ≤ length bytes → with_bytes bytes place (take size (drop place bytes)) ≡ bytes
rewritten bytes place size room =
    let size_is = length-part bytes place size room in
    let whole = take-append-drop size (drop place bytes) in
    grind (arith, append_assoc, size_is, drop-drop size place bytes, whole, take-append-drop place bytes)

-- what is put was found, and fits
pub put_found : {Y : Type 0} (found : Result (Option Y) RefusalAt) (misfit : Option Misfit) (place : ℕ)
    (put new : List ℕ)
    → put_if_there found (put_unless misfit place put) ≡ Ok (Some new)
    → (y : Y) × (found ≡ Ok (Some y)) × (new ≡ put)
put_found found misfit place put new is = grind (arith, nat_tests)

-- a list of as many items has one at the same index
still_there : {X : Type 0} (items others : Result (List X) RefusalAt) (index : ℕ) (x : X)
    → count_of others ≡ count_of items → item_at items index ≡ Ok (Some x)
    → (y : X) × (item_at others index ≡ Ok (Some y))
still_there (Ok items) (Ok others) index x same found =
    (get_or others index x, grind (arith, slice_get_within items index x, slice_get-get_or others index x))
still_there (Ok items) (Err e) index x same found = absurd (cc)
still_there (Err e) others index x same found = absurd (cc)

module _ {R Y : Type 0} {l : Layout R} {convert : R → Y} {start : ℕ} {list : List ℕ → Result (List R) RefusalAt}
    (own : Read l convert start list) where
  -- such a call stores what was put
  put_is_read : (bytes new : List ℕ) (index : ℕ) (x : R)
      → l.Fits x
      → put_if_there (item_at (each_converted convert (list bytes)) index) (put_at l bytes start index x None)
      ≡ Ok (Some new)
      → count_of (each_converted convert (list new)) ≡ count_of (each_converted convert (list bytes))
      → item_at (each_converted convert (list new)) index ≡ Ok (Some (convert x))
  put_is_read bytes new index x fits put same =
      grind (arith, nat_tests, own_bytes, put_found, reads_back, still_there, item_read own)

  put_changes_one : (bytes new : List ℕ) (index : ℕ) (x : R) (misfit : Option Misfit)
      → put_if_there (item_at (each_converted convert (list bytes)) index) (put_at l bytes start index x misfit)
      ≡ Ok (Some new)
      → ChangesOnly (start + index * l.size) l.size bytes new
  put_changes_one bytes new index x misfit put =
      let stay = others_stay bytes (start + index * l.size) (l.image x) l.size (own.laws.length_image x) in
      grind (arith, stay, item_read own bytes index)

  -- what such a call stores fits if what is read does, and is put without a change
  read_is_put : (back : Y → R) (bytes : List ℕ) (index : ℕ) (y : Y)
      → ((x : R) → l.Fits x → back (convert x) ≡ x) → IsBytes bytes
      → item_at (each_converted convert (list bytes)) index ≡ Ok (Some y)
      → l.Fits (back y)
      × (put_if_there (item_at (each_converted convert (list bytes)) index) (put_at l bytes start index (back y) None)
      ≡ Ok (Some bytes))
  read_is_put back bytes index y same are found =
      let place = start + index * l.size in
      let read = item_read own bytes index y found in
      let there = take l.size (drop place bytes) in
      let long : length there ≡ l.size = length-part bytes place l.size read.0 in
      let some = IsBytes-part bytes place l.size are in
      let fits = own.laws.reads_fit there some (omega (arith, long)) in
      let back_is = own.laws.writes_back there some in
      let same_bytes = rewritten bytes place l.size in
      grind (arith, same (l.read there) fits, fits, read, found, back_is, take_all l.size there, long, same_bytes)

pub reads_are_put : ReadsArePut
reads_are_put = record {
  section = λ bytes h index s. read_is_put (sections h) section_from_c bytes index s (λ x fits. grind (
    arith,
    mod-eq_of_lt,
  ));
  segment = λ bytes h index s. read_is_put (segments h) segment_from_c bytes index s (λ x fits. refl);
  symbol = λ bytes h table index s.
      read_is_put (symbols h table) symbol_from_c bytes index s (λ x fits. grind (arith, mod-eq_of_lt));
  reloc = λ bytes h table is_rela index r are found.
      (read_is_put (relocs h table is_rela) (reloc_from_c is_rela) bytes index r (λ x fits. grind (
        arith,
        mod-eq_of_lt,
      )) are
      found).1;
  entry = λ bytes h range index d are is.
      grind (arith, same_items, read_is_put (entries h range) (λ x. x) bytes index (dyn_from_c d) (λ x fits. refl) are);
}

pub puts_are_read : PutsAreRead
puts_are_read = record {
  section = λ bytes new h index s fits.
      grind (arith, put_is_read (sections h) bytes new index (section_from_c s) fits, mod-eq_of_lt);
  segment = λ bytes new h index s. put_is_read (segments h) bytes new index (segment_from_c s);
  symbol = λ bytes new h table index s fits.
      grind (arith, put_is_read (symbols h table) bytes new index (symbol_from_c s) fits, mod-eq_of_lt);
  reloc = λ bytes new h table is_rela index r fits.
      grind (arith, put_is_read (relocs h table is_rela) bytes new index (reloc_from_c is_rela r) fits.0, mod-eq_of_lt);
  entry = λ bytes new h range index d fits is.
      let read = put_is_read (entries h range) bytes new index (dyn_from_c d) fits in
      let one = put_changes_one (entries h range) bytes new index (dyn_from_c d) None in
      grind (arith, read, same_items, length-drop, length-map, length-take, length_records, one);
}

pub puts_change_one : PutsChangeOne
puts_change_one = record {
  section = λ bytes new h index s. put_changes_one (sections h) bytes new index (section_from_c s);
  segment = λ bytes new h index s. put_changes_one (segments h) bytes new index (segment_from_c s);
  symbol = λ bytes new h table index s. put_changes_one (symbols h table) bytes new index (symbol_from_c s);
  reloc = λ bytes new h table is_rela index r.
      put_changes_one (relocs h table is_rela) bytes new index (reloc_from_c is_rela r);
  entry = λ bytes new h range index d misfit is.
      put_changes_one (entries h range) bytes new index (dyn_from_c d) misfit (rw same_items is);
}

-- files of the same length have as many symbols and relocations in a range
pub counts_stay : CountsStay
counts_stay = grind (arith, nat_tests, length-map, length_records)

pub unfit_are_refused : UnfitAreRefused
unfit_are_refused = grind (arith, nat_tests)

pub ruleset put_laws = (puts_are_read, puts_change_one, reads_are_put, counts_stay)

-- ---- A header that is put is read again.

is_read : (bytes : List ℕ) (h : GoblinHeader) (ctx : Ctx)
    → FitsClass bytes h → named_ctx bytes h ≡ Ok ctx
    → header_expected
    ((header_layout ctx.container ctx.le).image (header_from_c bytes h) ++ drop (header_size ctx.container) bytes)
    ≡ Ok (Some h)
is_read bytes h ctx fits is = grind (arith, nat_tests, length-drop, length-take-le, fits-room_of, reads_back)

-- what is put is put in a context
put_in : (answer : Result Ctx Error) (after : Ctx → List ℕ) (new : List ℕ)
    → (refuse_as refusal_converted (refused_at 0 (refuse_as refusal_of answer)) >>= λ c. put_unless None 0 (after c))
    ≡ Ok (Some new)
    → (ctx : Ctx) × (answer ≡ Ok ctx) × (after ctx ≡ new)
put_in answer after new put = grind (arith, nat_tests)

pub headers_are_read : HeadersAreRead
headers_are_read bytes new h fits put =
    let own = put_in (named_ctx bytes h) (λ ctx. (header_layout ctx.container ctx.le).image (header_from_c bytes h)
    ++ drop (header_size ctx.container) bytes) new put in
    rw (← own.2) (is_read bytes h own.0 fits own.1)

-- ---- Numbers and headers that are put are read again.

-- a number that is read has a width, and lies in the file
pub read_there : (bytes : List ℕ) (h : GoblinHeader) (offset width value : ℕ)
    → number_expected bytes h offset width ≡ Ok (Some value)
    → (is_width width ≡ true) × (offset + width ≤ length bytes)
    × (value ≡ number_at (context_of h).le bytes offset width)
read_there bytes h offset width value is = grind (arith, fits-room_of (length bytes) offset width)

-- the bytes of a number are written over those at its offset
with_number-is : (order : Endian) (bytes : List ℕ) (offset width value : ℕ)
    → with_number order bytes offset width value ≡ with_bytes bytes offset (spelled order width value)
unfolding with_number
with_number-is order bytes offset width value = grind (arith, nat_tests, length-spelled)

number_stays : (order : Endian) (bytes : List ℕ) (offset width value : ℕ)
    → offset + width ≤ length bytes → ChangesOnly offset width bytes (with_number order bytes offset width value)
number_stays order bytes offset width value room =
    let stay = others_stay bytes offset (spelled order width value) width (length-spelled order width value) in
    grind (arith, with_number-is order bytes offset width value, stay)

pub numbers_are_put : NumbersArePut
numbers_are_put = record {
  read = λ bytes new h offset width value fits put.
      let fits_there = fits-room_of (length bytes) offset width in
      let stays = number_stays (context_of h).le bytes offset width value in
      let number = number_at-with_number (context_of h).le bytes offset width value in
      grind (arith, nat_tests, fits_there, room_of_fits (length new) offset width, stays, mod-eq_of_lt fits, number);
  one = λ bytes new h offset width value misfit put.
      let stays_is = number_stays (context_of h).le bytes offset width value in
      grind (arith, nat_tests, fits-room_of (length bytes) offset width, stays_is);
  back = λ bytes h offset width value are found.
      let order = (context_of h).le in
      let spelt = spelled-number order (take width (drop offset bytes)) (IsBytes-part bytes offset width are) in
      let there = read_there bytes h offset width value found in
      let size = length-part bytes offset width in
      let least = number_at-lt order bytes offset width are in
      let spelt_there = with_number-is order bytes offset width value in
      grind (arith, nat_tests, spelt, there, size, least, spelt_there, rewritten bytes offset width);
}

pub numbers_in_ranges_are_put : NumbersInRangesArePut
numbers_in_ranges_are_put bytes h range offset width value found misfit is =
    grind (arith, nat_tests, numbers_lie_in_range)

-- a number that is found in a range lies in the file
pub in_range_there : (bytes : List ℕ) (h : GoblinHeader) (range : GoblinRange) (offset width value : ℕ)
    → number_in_expected bytes h range offset width ≡ Ok (Some value)
    → range.offset + offset + width ≤ length bytes
in_range_there bytes h range offset width value is = grind (arith, nat_tests, numbers_lie_in_range, read_there)

pub ruleset number_laws = (numbers_are_put, numbers_in_ranges_are_put)
