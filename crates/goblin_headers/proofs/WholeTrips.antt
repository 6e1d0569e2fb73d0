-- Headers of either class are read back from the bytes that they were written as, and written back as those they were
-- read from.
--
-- They go as those of one class, with two tests more: the image begins with the identification, so the magic number and
-- the class byte are read as they were written (`reads_back`). A header that was read names the class and the byte
-- order of its bytes (`was_read`), so it is written as it was read (`writes_back`).
use Rattle.goblin_headers.proofs.Common.{common_steps, ◌≡◌, ◌≤◌, ℕ, true, nat_eq, List, [], ◌++◌, length, take, drop}
use Rattle.goblin_headers.proofs.Common.{slice_index, Some, Result, Ok, refl, sym, ap, ◌∙◌, arith, nat_lt, not}
use Rattle.goblin_headers.proofs.Common.{Container, Endian, Error, with_size, Layout, number_at, refuse_if, Header}
use Rattle.goblin_headers.proofs.Common.{header_layout, order_named, class_of, WritesHeader, WritesInOrder, BadMagic}
use Rattle.goblin_headers.proofs.Common.{DataType, ElfClass, Malformed, TooSmall, step, passed, found, ◌<◌, Writes}
use Rattle.goblin_headers.proofs.Common.{room_of_fits, room_of-few, fits-room_of}
use Rattle.std.specs.List.{starts_with}
use Rattle.std.proofs.lemmas.List.{append-nil, length-append, take-append-drop, get_or-take}
use Rattle.goblin_headers.specs.Header.{header_size, HeaderFits, Identifies, new_header, magic, class_named}
use Rattle.goblin_headers.specs.HeaderTrips.{EachFits, OneImage, ReadsBack, WrittenAndReadBack, ImageOfRead, WritesBack}
use Rattle.goblin_headers.specs.HeaderTrips.{NewIsOfContext, NewIsReadBack, NewInNumbers, IsReadBack}
use Rattle.goblin_headers.specs.HeaderTrips.{IsWrittenAndReadBack, HeadersRefused, IsWrittenBack, RawHeadersRefused}
use Rattle.goblin_headers.specs.ReadHeader.{read_header, read_in_order}
use Rattle.goblin_headers.proofs.HeaderLemmas.{header_laws, headers_fit, one_header_image, IsHeader}
use Rattle.goblin_base.specs.declared.error.Fault.{Fault}
use Rattle.goblin_base.specs.declared.container.Container.TheVariants as class
use Rattle.goblin_base.specs.declared.container.Endian.TheVariants as endian

-- ---- headers of one class, there and back
-- The image begins with the identification, whose data byte names the byte order: so what is written in that order is
-- read in it too (`raw_reads_back`). What was read says in which order and that the bytes were enough
-- (`was_read_in_order`), so it is written in that order, over the same bytes (`raw_writes_back`).

-- ---- reading and writing in the byte order that is named
-- the result of writing into a buffer that is large enough, and what it leaves there
pub record Wrote {R : Type 0} (l : Layout R) (h : R) (old new : List ℕ) (answer : Result ℕ Error) : Type 0 where
  pub answers : answer ≡ Ok l.size
  pub leaves : new ≡ l.image h ++ drop l.size old

-- with a byte order and a buffer that is large enough, the image in that order is written
pub writes_in_order : {R : Type 0} (ident : List ℕ) (layout : Endian → Layout R) (h : R) (old new : List ℕ)
    (answer : Result ℕ Error) (order : Endian)
    → order_named (slice_index ident 5) ≡ Some order → (layout order).size ≤ length old
    → WritesInOrder ident layout h old answer new
    → Wrote (layout order) h old new answer
unfolding WritesInOrder Writes
writes_in_order ident layout h old new answer order named room so = grind (arith, room_of_fits)

-- with a byte order and enough bytes, the header is read in that order
pub reads_in_order : {R : Type 0} (layout : Endian → Layout R) (fault : ℕ → Fault) (bytes : List ℕ) (order : Endian)
    → 16 ≤ (layout order).size → (layout order).size ≤ length bytes → order_named (slice_index bytes 5) ≡ Some order
    → read_in_order layout fault bytes ≡ Ok ((layout order).read bytes)
unfolding read_in_order
reads_in_order layout fault bytes order enough room named = grind (arith, room_of_fits)

-- so it is as the functions that read have found it
pub reads_found : {R : Type 0} (layout : Endian → Layout R) (fault : ℕ → Fault) (bytes : List ℕ) (order : Endian)
    (x : R)
    → Some order ≡ order_named (slice_index bytes 5) → x ≡ (layout order).read bytes → 16 ≤ (layout order).size
    → (layout order).size ≤ length bytes
    → Ok x ≡ read_in_order layout fault bytes
reads_found layout fault bytes order x named is enough room = grind (arith, reads_in_order)

-- what a header was read from
pub record WasReadInOrder {R : Type 0} (layout : Endian → Layout R) (bytes : List ℕ) (h : R) : Type 0 where
  pub order : Endian
  pub ordered : order_named (slice_index bytes 5) ≡ Some order
  pub enough : (layout order).size ≤ length bytes
  pub header : h ≡ (layout order).read bytes

pub was_read_in_order : {R : Type 0} (layout : Endian → Layout R) (fault : ℕ → Fault) (bytes : List ℕ) (h : R)
    → read_in_order layout fault bytes ≡ Ok h → WasReadInOrder layout bytes h
unfolding read_in_order
was_read_in_order layout fault bytes h is = grind (arith, fits-room_of)

-- a byte of the first of two parts
pub front_byte : (image front after rest : List ℕ) (i : ℕ)
    → image ≡ front ++ after → i < length front → slice_index (image ++ rest) i ≡ slice_index front i
front_byte image front after rest i is h = grind (arith, common_steps)

-- a byte of an identification
pub ident_byte : (ident bytes : List ℕ) (i : ℕ)
    → ident ≡ take 16 bytes → i < 16 → slice_index ident i ≡ slice_index bytes i
ident_byte ident bytes i is h = ap (λ (all : List ℕ). slice_index all i) is ∙ rw (get_or-take 16 bytes i 0) refl

module _ {R : Type 0} {ident : R → List ℕ} {layout : Endian → Layout R}
    (all : (order : Endian) → IsHeader ident (layout order)) where
  pub raw_reads_back : IsReadBack ident layout
  raw_reads_back fault order h rest names fits = grind (arith, length-append, reads_in_order)

  pub raw_written_and_read_back : IsWrittenAndReadBack ident layout
  raw_written_and_read_back fault order h old new answer names fits room so =
      let wrote = writes_in_order (ident h) layout h old new answer order names.named room so in
      let back = raw_reads_back fault order h (drop (layout order).size old) names fits in
      (wrote.answers, ap (read_in_order layout fault) wrote.leaves ∙ back)

  pub raw_writes_back : (size : ℕ) → ((order : Endian) → (layout order).size ≡ size) → IsWrittenBack size ident layout
  raw_writes_back size sized fault h bytes new answer are is so =
      let from = was_read_in_order layout fault bytes h is in
      let l = layout from.order in
      let laws = all from.order in
      let front = ap ident from.header ∙ laws.ident_read bytes in
      let ordered = ap order_named (ident_byte (ident h) bytes 5 front (omega arith)) ∙ from.ordered in
      let wrote = writes_in_order (ident h) layout h bytes new answer from.order ordered from.enough so in
      let same = ap (l.image) from.header ∙ laws.writes_back bytes are from.enough in (
        wrote.answers ∙ ap (λ (n : ℕ). Ok n) (sized from.order),
        wrote.leaves ∙ ap (λ (front : List ℕ). front ++ drop l.size bytes) same ∙ take-append-drop l.size bytes,
      )

-- ---- headers of either class, there and back

-- ---- reading a header of either class is reading a raw one, after the tests of its magic number and its class byte
-- the bytes begin as a file of a class does
pub record Begins (class : Container) (bytes : List ℕ) : Type 0 where
  pub long : 16 ≤ length bytes
  pub starts : starts_with nat_eq bytes magic ≡ true
  pub named : class_named (slice_index bytes 4) ≡ Some class

-- then a header of the class is read
pub read_begun : (class : Container) (bytes : List ℕ)
    → Begins class bytes
    → read_header bytes ≡ with_size (header_size class) (read_in_order (header_layout class) DataType bytes)
unfolding read_header
read_begun class bytes begins = grind arith

-- the header and the size that make a result
record Sized {R : Type 0} (answer : Result R Error) (expected : ℕ) (x : R) (size : ℕ) : Type 0 where
  read : answer ≡ Ok x
  size_is : size ≡ expected

sized : {R : Type 0} (answer : Result R Error) (expected : ℕ) (x : R) (size : ℕ)
    → Ok (x, size) ≡ with_size expected answer → Sized answer expected x size
sized {R = R} answer expected x size is = grind arith

-- the raw header of its class that was read is, widened, the header of either class
pub read_header-raw : {R : Type 0} (class : Container) (layout : Endian → Layout R) (widen : R → Header)
    (bytes : List ℕ) (raw : R) (size : ℕ)
    → ((order : Endian) → ((layout order).size ≡ header_size class)
    × (widen ((layout order).read bytes) ≡ (header_layout class order).read bytes))
    → 16 ≤ length bytes → starts_with nat_eq bytes magic ≡ true → class_named (slice_index bytes 4) ≡ Some class
    → Ok (raw, size) ≡ with_size (header_size class) (read_in_order layout DataType bytes)
    → Ok (widen raw, size) ≡ read_header bytes
read_header-raw class layout widen bytes raw size same long starts named is =
    let begins : Begins class bytes = record { long = long; starts = starts; named = named } in
    let whole = sized (read_in_order layout DataType bytes) (header_size class) raw size is in
    let from = was_read_in_order layout DataType bytes raw whole.read in
    let wide = same from.order in
    let enough = (header_laws class from.order).enough in
    let room : header_size class ≤ length bytes = omega (arith, wide.0, from.enough) in
    let header = sym wide.1 ∙ ap widen (sym from.header) in
    let read = reads_in_order (header_layout class) DataType bytes from.order enough room from.ordered ∙ ap Ok header in
    let result : read_header bytes ≡ Ok (widen raw, header_size class) =
    read_begun class bytes begins ∙ ap (with_size (header_size class)) read in
    ap (λ (n : ℕ). Ok (widen raw, n)) whole.size_is ∙ sym result

-- the class and the byte order that the identification of a header that was read names
read_names : (class : Container) (order : Endian) (bytes ident : List ℕ)
    → Begins class bytes → ident ≡ take 16 bytes → order_named (slice_index bytes 5) ≡ Some order
    → Identifies class order ident
read_names class order bytes ident begins is ordered = grind arith

-- what holds of a header that was read: as what it was read, in which order, and what its identification names
pub record WasRead (bytes : List ℕ) (h : Header) (size : ℕ) : Type 0 where
  pub class : Container
  pub read : read_in_order (header_layout class) DataType bytes ≡ Ok h
  pub from : WasReadInOrder (header_layout class) bytes h
  pub names : Identifies class from.order h.e_ident
  pub sized : size ≡ header_size class

-- what a header was read from
pub was_read : (bytes : List ℕ) (h : Header) (size : ℕ) → read_header bytes ≡ Ok (h, size) → WasRead bytes h size
unfolding read_header
was_read bytes h size is =
    let long = step (refuse_if (nat_lt (length bytes) 16) (Malformed TooSmall)) _ (h, size) is in
    let magical =
    step (refuse_if (not (starts_with nat_eq bytes magic)) (BadMagic (number_at endian.Little bytes 0 8))) _
    (h, size) long.rest in
    let class = step (class_of ElfClass bytes) _ (h, size) magical.rest in
    let layout = header_layout class.value in
    let whole = sized (read_in_order layout DataType bytes) (header_size class.value) h size (sym class.rest) in
    let from = was_read_in_order layout DataType bytes h whole.read in
    let laws = header_laws class.value from.order in
    let begins : Begins class.value bytes =
    record {
      long = omega (arith, laws.enough, from.enough);
      starts = passed (starts_with nat_eq bytes magic) _ magical.value magical.is;
      named = found (class_named (slice_index bytes 4)) _ class.value class.is;
    } in
    let ident = ap (λ (g : Header). g.e_ident) from.header ∙ laws.ident_read bytes in
    record {
      class = class.value;
      read = whole.read;
      from = from;
      names = read_names class.value from.order bytes h.e_ident begins ident from.ordered;
      sized = whole.size_is;
    }

-- ---- the laws
pub one_image : OneImage
one_image class = one_header_image (header_laws class)

pub each_fits : EachFits
each_fits class.Little = headers_fit (header_laws class.Little)
each_fits class.Big = headers_fit (header_laws class.Big)

-- a header that fits a class fits it in either byte order
fits_in : (class : Container) (order : Endian) (h : Header) → HeaderFits class h → (header_layout class order).Fits h
fits_in class.Little order h fits = fits
fits_in class.Big order h fits = fits

-- bytes that begin with the magic number do so whatever bytes follow
begins_so : (image ident after rest : List ℕ)
    → image ≡ ident ++ after → length ident ≡ 16 → take 4 ident ≡ magic
    → starts_with nat_eq (image ++ rest) magic ≡ true
begins_so image ident after rest is long starts = grind arith

pub reads_back : ReadsBack
reads_back class order h rest names fits =
    let image = (header_layout class order).image h in
    let laws = header_laws class order in
    let after = laws.after_ident h in
    let is = laws.image_is h in
    let long = names.names_order.long in
    let byte = front_byte image h.e_ident after rest 4 is (omega arith) in
    let begins : Begins class (image ++ rest) =
    record {
      long = omega (arith, length-append image rest, laws.length_image h long, laws.enough);
      starts = begins_so image h.e_ident after rest is long names.begins;
      named = ap class_named byte ∙ names.named;
    } in
    read_begun class (image ++ rest) begins
    ∙ ap (with_size (header_size class))
    (raw_reads_back (header_laws class) DataType order h rest names.names_order (fits_in class order h fits))

-- a header that names a class is written as one of that class
writes_in_class : (class : Container) (h : Header) (old new : List ℕ) (answer : Result ℕ Error)
    → class_named (slice_index h.e_ident 4) ≡ Some class → WritesHeader h old answer new
    → WritesInOrder h.e_ident (header_layout class) h old answer new
unfolding WritesHeader
writes_in_class class h old new answer named so = rw named at so

pub written_and_read_back : WrittenAndReadBack
written_and_read_back class order h old new answer names fits room so =
    let there = writes_in_class class h old new answer names.named so in
    let named = names.names_order.named in
    let wrote = writes_in_order h.e_ident (header_layout class) h old new answer order named room there in
    (wrote.answers, ap read_header wrote.leaves ∙ reads_back class order h (drop (header_size class) old) names fits)

pub image_of_read : ImageOfRead
image_of_read h bytes size are read =
    let was = was_read bytes h size read in
    let from = was.from in
    let laws = header_laws was.class from.order in (
      was.class,
      from.order,
      was.names,
      was.sized,
      ap ((header_layout was.class from.order).image) from.header
          ∙ laws.writes_back bytes are from.enough
          ∙ ap (λ (n : ℕ). take n bytes) (sym was.sized),
    )

pub writes_back : WritesBack
writes_back h bytes new size answer are read so =
    let was = was_read bytes h size read in
    let there = writes_in_class was.class h bytes new answer was.names.named so in
    let back = raw_writes_back (header_laws was.class) (header_size was.class) (λ order. refl) DataType h bytes new
    answer are was.read there in
    (back.0 ∙ ap (λ (n : ℕ). Ok n) (sym was.sized), back.1)

-- the first test that fails refuses
pub raw_refused : {R : Type 0} (size : ℕ) (layout : Endian → Layout R) → ((order : Endian) → (layout order).size ≡ size)
    → (fault : ℕ → Fault) (bytes : List ℕ) → RawHeadersRefused size layout fault bytes
unfolding read_in_order
raw_refused size layout sized fault bytes = grind (arith, room_of-few, room_of_fits)

pub headers_refused : (bytes : List ℕ) → HeadersRefused bytes
unfolding read_header
headers_refused bytes = grind arith

pub new_is_of_context : NewIsOfContext
new_is_of_context ctx = grind arith

pub new_in_numbers : NewInNumbers
new_in_numbers order = (refl, refl, refl, refl)

pub new_is_read_back : NewIsReadBack
new_is_read_back ctx =
    let new = new_is_of_context ctx in
    ap read_header (sym (append-nil ((header_layout ctx.container ctx.le).image (new_header ctx))))
    ∙ reads_back ctx.container ctx.le (new_header ctx) [] new.0 new.1
