-- The lists of records that calls read, and the item with an index of them.
--
-- A list that was read passed the test of room for each of its records (`each_fits`), so each was read from its own
-- bytes, which lie in the file (`each_read`, `read_part`). What is read of bytes fits (`fits_in`), so the low bits that
-- C has of it are all of it.
use Rattle.goblin.specs.Header.{HeaderFits, as32, as64, header32, header64}
use Rattle.goblin.specs.SectionHeaders.{count_asked, section_headers_from, section_headers_from_tested}
use Rattle.goblin_base.proofs.{ByteorderLemmas.length-part, Eager.past_records}
use Rattle.goblin_base.specs.{Eager.records_from, Eager.records_in, Eager.room_of_each, FieldLaws.IsBytes-part}
use Rattle.goblin_base.specs.{Fields.Field, Fields.FieldsFit, Layout.IsRecord, Number.IsBytes, Record.records}
use Rattle.goblin_base.specs.{Record.unless_fault, TableLaws.records-agree, declared.container.Container.Container}
use Rattle.goblin_c.proofs.Common.{Decides, GoblinHeader, GoblinRange, List, None, Ok, Option, RefusalAt, Result, Some}
use Rattle.goblin_c.proofs.Common.{[], arith, context_of, drop, drop-drop, fits-room_of, get_or_from_slice_get}
use Rattle.goblin_c.proofs.Common.{get_records, length, length-drop, length-map, map, mod-eq_of_lt, nat_tests}
use Rattle.goblin_c.proofs.Common.{option_map, position_or_len, refl, room_of, segments_expected, slice_get}
use Rattle.goblin_c.proofs.Common.{slice_get-get_or, slice_get-map, slice_get_within, suc, take, true, zero, ℕ, ◌*◌}
use Rattle.goblin_c.proofs.Common.{◌+◌, ◌-◌, ◌<◌, ◌==◌, ◌>>=◌, ◌∙◌, ◌∷◌, ◌≡◌, ◌≤◌}
use Rattle.goblin_c.specs.Common.{Ctx, Header, Layout, Refused, SectionHeader}
use Rattle.goblin_c.specs.File.{ContextIsTheHeaders, HasHeader, NamesContext, header_converted}
use Rattle.goblin_c.specs.Items.{FindsItemFrom, RefusesAll, each_converted, found_item, item_at}
use Rattle.goblin_c.specs.Relocs.{reloc_converted, reloc_ctx, reloc_layout_of, relocs_expected}
use Rattle.goblin_c.specs.Sections.{SectionsByType, section_converted, section_expected, section_layout_of}
use Rattle.goblin_c.specs.Symbols.{symbol_converted, symbol_layout_of, symbols_expected}
use Rattle.goblin_c.specs.{Dynamic.dyn_layout_of, Dynamic.whole_entries_expected, Laws.ItemsAreWhole, Results.ReturnsAt}
use Rattle.goblin_c.specs.{Results.converted_list, Sections.sections_expected, Segments.segment_converted}
use Rattle.goblin_c.specs.{Segments.segment_layout_of}
use Rattle.goblin_dynamic.specs.Dyn.{entry_laws}
use Rattle.goblin_headers.proofs.WholeTrips.{was_read}
use Rattle.goblin_headers.specs.{ProgramHeaderLaws.program_header_laws, SectionHeaderLaws.section_header_laws}
use Rattle.goblin_records.specs.{RelocLaws.reloc_laws_in, SymLaws.sym_laws}
use Rattle.std.proofs.Common.{Bool, false, inl, max, position, subst, ◌/◌, ◌^◌, ◌⊎◌}
use Rattle.std.proofs.{Math.Nat.div-mul-le_self, Math.Nat.mul-le-mul_right, lemmas.Bool.cases_lt}
use Rattle.std.proofs.{lemmas.Bool.Decides.Decides-eqb, lemmas.List.take-take, lemmas.List.Quantifiers.position-Some}
use Rattle.std.proofs.{lemmas.List.Sums.fails_before_first, lemmas.Option.slice_get_past}

-- the value of a step that went on
pub bind_ok : {A B E : Type 0} (first : Result A E) (next : A → Result B E) (y : B)
    → (first >>= next) ≡ Ok y → (x : A) × (first ≡ Ok x) × (next x ≡ Ok y)
bind_ok first next y is = grind (arith, nat_tests)

-- records that pass the test of room one by one lie in the bytes
each_fits : (len start size count : ℕ) (u : Unit {0})
    → room_of_each len start size count ≡ Ok u → 0 < count → start + count * size ≤ len
each_fits len start size zero u is some = absurd (omega arith)
each_fits len start size (suc zero) u is some = grind (arith, fits-room_of len start size)
each_fits len start size (suc (suc count)) u is some =
    let sizes : suc (suc count) * size ≡ size + suc count * size = omega arith in
    grind (arith, sizes, each_fits len (start + size) size (suc count) u)

-- a record was read from the bytes at a place
abbrev pub ReadAt : {R : Type 0} → ℕ → (List ℕ → R) → List ℕ → ℕ → R → Type 0
ReadAt size read bytes place x = (place + size ≤ length bytes) × (x ≡ read (take size (drop place bytes)))

-- so was each of a list, one after another
abbrev pub EachRead : {R : Type 0} → ℕ → (List ℕ → R) → List ℕ → ℕ → List R → Type 0
EachRead {R} size read bytes start items =
    (index : ℕ) (x : R) → slice_get items index ≡ Some x → ReadAt size read bytes (start + index * size) x

module _ {R : Type 0} (size : ℕ) (read : List ℕ → R) (bytes : List ℕ) (start count : ℕ) (items : List R) where
  each_read : items ≡ records size read count (drop start bytes) → (0 < count → start + count * size ≤ length bytes)
      → EachRead size read bytes start items
  each_read are fit index x found =
      let before : index < count → (index + 1) * size ≤ count * size = λ h. mul-le-mul_right size (omega (arith, h)) in
      let all = drop start bytes in
      let none = past_records size read count all index in
      grind (arith, before, get_records size read count all index, none, drop-drop (index * size) start bytes)

  read_in : records_in size read bytes start count ≡ Ok items → EachRead size read bytes start items
  unfolding records_in
  read_in is = grind (arith, each_fits (length bytes) start size count tt, each_read)

-- as many as lie whole in a range
read_part : {R : Type 0} (size : ℕ) (read : List ℕ → R) (bytes : List ℕ) (start filesz : ℕ) (items : List R)
    → unless_fault (room_of (length bytes) start filesz)
    (records size read (filesz / size) (take filesz (drop start bytes))) ≡ Ok items
    → EachRead size read bytes start items
read_part size read bytes start filesz items is =
    let inside : filesz / size * size ≤ filesz = div-mul-le_self filesz size in
    let same = records-agree size read (filesz / size) (take filesz (drop start bytes)) (drop start bytes)
    (take-take (filesz / size * size) filesz (drop start bytes) inside) in
    grind (
      arith,
      same,
      inside,
      fits-room_of (length bytes) start filesz,
      each_read size read bytes start (filesz /
          size) items,
    )

-- records of a layout that a call reads from an offset on, and converts for C
pub record Read
    {R Y : Type 0} (l : Layout R) (convert : R → Y) (start : ℕ)
    (list : List ℕ → Result (List R) RefusalAt) : Type 0 where
  pub laws : IsRecord l
  pub lie : (bytes : List ℕ) (items : List R) → list bytes ≡ Ok items → EachRead l.size l.read bytes start items

module _ {R Y : Type 0} {l : Layout R} {convert : R → Y} {start : ℕ} {list : List ℕ → Result (List R) RefusalAt}
    (own : Read l convert start list) (bytes : List ℕ) where
  -- an item of such a list fits
  pub fits_in : (items : List R) (index : ℕ) (x : R)
      → IsBytes bytes → list bytes ≡ Ok items → slice_get items index ≡ Some x → l.Fits x
  fits_in items index x are is found =
      let read = own.lie bytes items is index x found in
      let place = start + index * l.size in
      let fits = own.laws.reads_fit (take l.size (drop place bytes)) (IsBytes-part bytes place l.size are) in
      grind (arith, fits, read, length-part bytes place l.size)

  -- and the item for C was read so
  pub item_read : (index : ℕ) (y : Y)
      → item_at (each_converted convert (list bytes)) index ≡ Ok (Some y)
      → (start + index * l.size + l.size ≤ length bytes)
      × (y ≡ convert (l.read (take l.size (drop (start + index * l.size) bytes))))
  item_read index y is = grind (arith, own.lie bytes, slice_get-map)

  -- so it is with an item that a call found
  pub room_for : {L : Type 0} (view : L → List R) (index : ℕ) (answer : Result L Refused)
      (found : Result (Option Y) Refused) (y : Y)
      → ReturnsAt view answer (list bytes)
      → ReturnsAt (λ x. x) found (item_at (converted_list (λ list. map convert (view list)) answer) index)
      → found ≡ Ok (Some y)
      → start + index * l.size + l.size ≤ length bytes
  room_for view index answer found y is stored there = grind (arith, item_read index y)

module _ (h : GoblinHeader) where
  pub sections : Read (section_layout_of h) section_converted h.e_shoff (λ xs. sections_expected xs h)
  unfolding section_headers_from section_headers_from_tested
  sections = record {
    laws = section_header_laws (context_of h).container (context_of h).le;
    lie = λ bytes items is. grind (
      arith,
      nat_tests,
      read_in (section_layout_of h).size (section_layout_of h).read bytes h.e_shoff
          (max 1 (count_asked bytes h.e_shoff h.e_shnum (context_of h))) items,
    );
  }

  pub segments : Read (segment_layout_of h) segment_converted h.e_phoff (λ xs. segments_expected xs h)
  unfolding records_from records_in
  segments = record {
    laws = program_header_laws (context_of h).container (context_of h).le;
    lie = λ bytes items is. grind (
      arith,
      nat_tests,
      bind_ok,
      read_in (segment_layout_of h).size (segment_layout_of h).read
          bytes h.e_phoff,
    );
  }

  pub symbols : (table : GoblinRange)
      → Read (symbol_layout_of h) symbol_converted table.offset (λ xs. symbols_expected xs h table)
  symbols table = record {
    laws = sym_laws (context_of h).container (context_of h).le;
    lie = λ bytes items is. grind (
      arith,
      nat_tests,
      each_read (symbol_layout_of h).size (symbol_layout_of h).read bytes
          table.offset (table.size / (symbol_layout_of h).size) items,
    );
  }

  pub relocs : (table : GoblinRange) (is_rela : Bool)
      → Read (reloc_layout_of h is_rela) reloc_converted table.offset (λ xs. relocs_expected xs h table is_rela)
  relocs table is_rela = record {
    laws = reloc_laws_in (reloc_ctx h is_rela);
    lie = λ bytes items is. grind (
      arith,
      nat_tests,
      read_part (reloc_layout_of h is_rela).size (reloc_layout_of h
          is_rela).read bytes table.offset table.size items,
    );
  }

  -- the entries of a range, which are not converted
  pub entries : (range : GoblinRange)
      → Read (dyn_layout_of h) (λ d. d) range.offset (λ xs. whole_entries_expected xs h range)
  entries range = record {
    laws = entry_laws (context_of h).container (context_of h).le;
    lie = λ bytes items is. grind (
      arith,
      nat_tests,
      length-part bytes range.offset range.size,
      fits-room_of (length
          bytes) range.offset range.size,
      read_part (dyn_layout_of h).size (dyn_layout_of h).read bytes range.offset range.size
          items,
    );
  }

-- the items of a list that is not converted
pub same_items : {R : Type 0} (all : Result (List R) RefusalAt) (index : ℕ)
    → item_at (each_converted (λ (x : R). x) all) index ≡ item_at all index
same_items all index = grind (arith, slice_get-map)

-- fields fit, or not
fields_decided : (fields : List Field) → FieldsFit fields ⊎ (¬ (FieldsFit fields))
fields_decided [] = inl tt
fields_decided (f ∷ fields) = grind (arith, cases_lt f.value (256 ^ f.width), fields_decided fields)

pub header_decided : (class : Container) (h : Header) → HeaderFits class h ⊎ (¬ (HeaderFits class h))
header_decided class h =
    grind (arith, fields_decided (header32.fields (as32 h)), fields_decided (header64.fields (as64 h)))

-- so what C has of an item that fits is all of it
pub items_are_whole : ItemsAreWhole
items_are_whole = record {
  section = λ bytes h items index s are is found.
      grind (arith, fits_in (sections h) bytes items index s are is found, mod-eq_of_lt);
  segment = λ s. refl;
  symbol = λ bytes h table items index s are is found.
      grind (arith, fits_in (symbols h table) bytes items index s are is found, mod-eq_of_lt);
  reloc = λ bytes h table is_rela items index r are is found.
      grind (arith, fits_in (relocs h table is_rela) bytes items index r are is found, mod-eq_of_lt);
}

-- ---- Items by index are those of the library's lists, in the context that a file's header names.
--
-- A header names one context, so the context that C hands back is the one that is asked for (`one_context`). The item
-- for C at an index is the one that the library's item at that index is converted to (`listed`).

-- the context of what C hands back is the one that the header names
pub context_is_the_headers : ContextIsTheHeaders
context_is_the_headers bytes h has =
    let names = (was_read bytes h has.0 has.1).names in grind (arith, nat_tests, names.named, names.names_order.named)

-- a header names one context
pub one_context : (bytes : List ℕ) (h : Header) (ctx : Ctx)
    → HasHeader bytes h → NamesContext h ctx → context_of (header_converted h) ≡ ctx
one_context bytes h ctx has named = grind (arith, nat_tests, context_is_the_headers)

-- the item at an index after those that are dropped
pub get_drop : {X : Type 0} (xs : List X) (n k : ℕ) → slice_get xs (n + k) ≡ slice_get (drop n xs) k
get_drop xs zero k = grind arith
get_drop [] (suc n) k = refl
get_drop (x ∷ xs) (suc n) k = grind (arith, get_drop xs n k)

pub ruleset by_index = (nat_tests, slice_get-map, slice_get_past, get_drop, length-drop)

-- ---- Looking for the first item that passes a test, from an index on.
--
-- The library's test decides what is asked of the item for C. Each item for C was converted from one of the list
-- (`converted_one`), and the library's search stops at the first of these that passes its test: so none for C before it
-- is so, and none at all if the search finds none (`finds`).

-- the first item that passes a test, and that none before it does
first_passes : {X : Type 0} (test : X → Bool) (items : List X) (i : ℕ)
    → position test items ≡ Some i → (x : X) × (slice_get items i ≡ Some x) × (test x ≡ true)
first_passes test [] i is = absurd (cc)
first_passes test (x ∷ items) i is =
    grind (arith, position-Some test (x ∷ items) i x, slice_get-get_or (x ∷ items) i x)

pub fails_before : {X : Type 0} (test : X → Bool) (items : List X) (k : ℕ) (x : X)
    → slice_get items k ≡ Some x → k < position_or_len test items → test x ≡ false
fails_before test items k x found before =
    grind (arith, get_or_from_slice_get items k x x found, fails_before_first test items k x before)

-- the item that an item for C was converted from
pub converted_one : {X Y : Type 0} (convert : X → Y) (items : List X) (k : ℕ) (y : Y)
    → ◌≡◌ {A = Result (Option Y) RefusalAt} (Ok (slice_get (map convert items) k)) (Ok (Some y))
    → (x : X) × (slice_get items k ≡ Some x) × (y ≡ convert x)
converted_one convert items k y is = grind (arith, slice_get-map)

module _ {X Y : Type 0} (convert : X → Y) (IsSo : Y → Type 0) (test : X → Bool) (items : List X)
    (decides : (k : ℕ) (x : X) → slice_get items k ≡ Some x → Decides (test x) (IsSo (convert x)))
    (Refuses : RefusalAt → Type 0) (first : ℕ) where
  -- an item for C before the first that passes is not so
  not_so : (k : ℕ) (y : Y)
      → first ≤ k → ◌≡◌ {A = Result (Option Y) RefusalAt} (Ok (slice_get (map convert items) k)) (Ok (Some y))
      → k - first < position_or_len test (drop first items) → ¬ (IsSo y)
  not_so k y after stored before so =
      let one = converted_one convert items k y stored in
      let place : first + (k - first) ≡ k = omega (arith, after) in
      let there : slice_get (drop first items) (k - first) ≡ Some one.0 =
      rw (← get_drop items first (k - first), place) one.1 in
      let fails = fails_before test (drop first items) (k - first) one.0 there before in
      grind (arith, decides k one.0 one.1, fails, subst IsSo one.2 so)

  -- so the first that passes is what is looked for
  pub finds : (found : Option ℕ)
      → position test (drop first items) ≡ found
      → FindsItemFrom first (λ index. Ok (slice_get (map convert items) index)) IsSo Refuses
      (Ok (found_item convert items (option_map (λ place. first + place) found)))
  finds (Some i) is =
      let one = first_passes test (drop first items) i is in
      let own = get_drop items first i ∙ one.1 in
      grind (arith, nat_tests, own, slice_get-map, decides (first + i) one.0 own, one.2, not_so)
  finds None is =
      λ k y after stored.
      not_so k y after stored (grind (arith, nat_tests, slice_get_within (map convert items), length-map, length-drop))

pub sections_by_type : SectionsByType
sections_by_type bytes h sh_type first =
    let test = λ (section : SectionHeader). section.sh_type == sh_type in
    let found = λ (items : List SectionHeader).
    finds section_converted (λ section. section.sh_type ≡ sh_type) test items
    (λ k section found. Decides-eqb section.sh_type sh_type) (RefusesAll (section_expected bytes h)) first
    (position test (drop first items)) refl in
    grind (arith, found)
