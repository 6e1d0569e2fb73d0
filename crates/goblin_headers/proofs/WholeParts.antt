-- Lemmas for the lists of headers of a whole part.
--
-- A list is not refused exactly if all its records lie whole in the bytes (`whole_is_listed`, `listed_is_whole`). So a
-- list that isn't refused is its own whole part, and the whole part of one that is refused has as many records as lie
-- whole in the bytes, or fewer.
use Rattle.goblin_headers.proofs.Common.{rules, ◌≡◌, ◌<◌, ◌≤◌, ◌+◌, ◌-◌, ◌*◌, ◌/◌, ◌==◌, ℕ, zero, suc, List, [], length}
use Rattle.goblin_headers.proofs.Common.{drop, codes, Bool, true, false, nat_lt, min, max, Result, Ok, Err, IsOk, refl}
use Rattle.goblin_headers.proofs.Common.{sym, ap, ◌∙◌, arith, if◌then◌else◌, nat_tests, Ctx, Error, unless_fault}
use Rattle.goblin_headers.proofs.Common.{fits-room_of, unless_fault-is, room_of, all_fit, SectionHeader}
use Rattle.goblin_headers.proofs.Common.{le-div_iff_mul-le, records_from, section_header_of, section_header_size}
use Rattle.goblin_headers.proofs.Common.{section_header_laws, step, take, IfErr, not_too_many, too_many}
use Rattle.goblin_base.specs.Eager.{room_of_each}
use Rattle.goblin_base.specs.Refusal.{buffer_too_short, refusal_of, Refuses}
use Rattle.goblin_base.specs.Record.{records}
use Rattle.goblin_headers.specs.declared.program_header.ProgramHeader.{ProgramHeader}
use Rattle.goblin_headers.specs.declared.whole_part.WholePart.{WholePart}
use Rattle.goblin_headers.specs.ProgramHeader.{program_header_of, program_header_size}
use Rattle.goblin_headers.specs.SectionHeaders.{count_asked, count_from, section_headers_from, section_headers_of}
use Rattle.goblin_headers.specs.SectionHeaders.{header_count, section_headers_from_tested}
use Rattle.goblin_headers.specs.WholePart.{IsListOfWhole, SectionsOfWhole, SegmentsOfWhole, WholeIsListed, cut_sections}
use Rattle.goblin_headers.specs.WholePart.{cut_segments, program_headers_of, sections_part, segment_count}
use Rattle.goblin_headers.specs.WholePart.{whole_sections, whole_segments}
use Rattle.std.proofs.lemmas.List.{take-append-drop, length-take-le, length-drop}
use Rattle.goblin_base.specs.declared.scroll.Error.{Error as Misplaced}

-- ---- reading the section headers of a file
-- The first header is read from its own bytes alone, and decides how many are asked for (`same_first`, `first_counts`).
-- If the bytes don't hold it, the list and its tests are refused with that error (`first_tested`). Otherwise the list
-- is that of so many records, and the test that is left is whether the bytes could hold so many (`from_is`,
-- `all_tested`).

-- the result of reading the first header
abbrev pub read_first : List ℕ → ℕ → Ctx → Result SectionHeader Error
read_first bytes offset ctx =
    unless_fault (room_of (length bytes) offset (section_header_size ctx.container))
    (section_header_of ctx.container ctx.le (take (section_header_size ctx.container) (drop offset bytes)))

-- the name of the items in the refusal of too many
abbrev pub items : List ℕ
items = codes "section headers"

-- the bytes hold the first header, and it is the one at the offset
pub same_first : (bytes : List ℕ) (offset : ℕ) (ctx : Ctx) (first : SectionHeader)
    → Ok first ≡ read_first bytes offset ctx
    → (room_of (length bytes) offset (section_header_size ctx.container) ≡ Ok tt)
    × (first ≡ section_header_of ctx.container ctx.le (drop offset bytes))
same_first bytes offset ctx first is =
    let size = section_header_size ctx.container in
    let rest = drop offset bytes in
    let found = unless_fault-is (room_of (length bytes) offset size) first
    (section_header_of ctx.container ctx.le (take size rest)) is in
    let fits = fits-room_of (length bytes) offset size tt found.0 in
    let long : size ≤ length (take size rest) =
    omega (arith, length-take-le size rest (omega (arith, length-drop offset bytes))) in
    let front = (section_header_laws ctx.container ctx.le).reads_front (take size rest) (drop size rest) long in
    (found.0, found.1 ∙ sym front ∙ ap (section_header_of ctx.container ctx.le) (take-append-drop size rest))

-- and it decides the count
pub first_counts : (bytes : List ℕ) (offset count : ℕ) (ctx : Ctx) (first : SectionHeader) (most : ℕ)
    → Ok first ≡ read_first bytes offset ctx → most ≡ max (header_count first count) 1
    → Ok most ≡ count_from bytes offset count ctx
first_counts bytes offset count ctx first most is counted =
    let found = same_first bytes offset ctx first is in
    let same : header_count first count ≡ count_asked bytes offset count ctx =
    ap (λ (h : SectionHeader). header_count h count) found.1 in
    let all : most ≡ max 1 (count_asked bytes offset count ctx) = omega (arith, counted, same) in
    rw (found.0) (ap Ok all)

-- if the bytes don't hold the first header, the tests refuse
pub first_tested : (bytes : List ℕ) (offset count : ℕ) (ctx : Ctx) (e : Error)
    → Err e ≡ count_from bytes offset count ctx
    → section_headers_from_tested bytes offset count ctx ≡ Err (refusal_of e)
unfolding section_headers_from_tested
first_tested bytes offset count ctx e is = grind arith

pub first_refused : (bytes : List ℕ) (offset count : ℕ) (ctx : Ctx) (e : Error)
    → Err e ≡ count_from bytes offset count ctx → section_headers_from bytes offset count ctx ≡ Err (refusal_of e)
unfolding section_headers_from
first_refused bytes offset count ctx e is = rw (first_tested bytes offset count ctx e is) refl

-- there is a count if the bytes hold the first header
module _ (bytes : List ℕ) (offset count : ℕ) (ctx : Ctx) (most : ℕ)
    (is : Ok most ≡ count_from bytes offset count ctx) where
  abbrev each : ℕ
  each = section_header_size ctx.container

  abbrev asked : ℕ
  asked = count_asked bytes offset count ctx

  found : (room_of (length bytes) offset each ≡ Ok tt) × (most ≡ max 1 asked)
  found = unless_fault-is (room_of (length bytes) offset each) most (max 1 asked) is

  one : 1 ≤ length bytes / each
  one = grind (arith, fits-room_of)

  -- then only the test of the count is left
  few : most ≤ length bytes / each → section_headers_from_tested bytes offset count ctx ≡ Ok tt
  unfolding section_headers_from_tested
  few enough = grind arith

  many : length bytes / each < most
      → section_headers_from_tested bytes offset count ctx ≡ Err (buffer_too_short most items)
  unfolding section_headers_from_tested
  many too = grind (arith, one)

  -- and the headers are those of the one list
  pub from_is : section_headers_from bytes offset count ctx
      ≡ records_from each (section_header_of ctx.container ctx.le) bytes offset most items
  unfolding section_headers_from
  from_is = grind (arith, many, too_many, few, not_too_many)

  -- a refusal of the tests is the result
  pub all_tested : {X : Type 0} (answer : Result X Error)
      → (length bytes / each < most → Refuses answer (buffer_too_short most items))
      → IfErr (section_headers_from_tested bytes offset count ctx) (λ refusal. Refuses answer refusal)
  all_tested answer refuses = grind (arith, many, few)

-- ---- the lists of headers of a whole part

-- records that pass the test of room one by one lie in the bytes
each_fits : (len start size count : ℕ)
    → room_of_each len start size (suc count) ≡ Ok tt → start + suc count * size ≤ len
each_fits len start size zero is = grind (arith, fits-room_of)
each_fits len start size (suc count) is =
    let first = step (room_of len start size) (λ _. room_of_each len (start + size) size (suc count)) tt is in
    let rest = each_fits len (start + size) size count first.rest in
    let sizes : suc (suc count) * size ≡ size + suc count * size = omega arith in
    omega (arith, rest, sizes)

-- the records of a list that is not refused all lie whole in the bytes
pub listed_is_whole : {R : Type 0} (size : ℕ) (read : List ℕ → R) (bytes : List ℕ) (start count : ℕ) (name : List ℕ)
    (all : List R)
    → 0 < size → records_from size read bytes start count name ≡ Ok all → count ≤ (length bytes - start) / size
unfolding records_from
listed_is_whole size read bytes start zero name all some is = omega arith
listed_is_whole size read bytes start (suc count) name all some is = grind (arith, each_fits, le-div_iff_mul-le)

-- a list of records that all lie whole in the bytes is not refused
pub whole_is_listed : {R : Type 0} (size : ℕ) (read : List ℕ → R) (bytes : List ℕ) (start count : ℕ) (name : List ℕ)
    → 0 < size → count ≤ (length bytes - start) / size
    → records_from size read bytes start count name ≡ Ok (records size read count (drop start bytes))
unfolding records_from
whole_is_listed size read bytes start zero name some whole = grind arith
whole_is_listed size read bytes start (suc count) name some whole =
    let there = (le-div_iff_mul-le {k = size} {x = suc count} {y = length bytes - start} some).0 whole in
    let more : suc count * size ≡ size + count * size = omega arith in
    let few = (le-div_iff_mul-le {k = size} {x = suc count} {y = length bytes} some).1 (omega (arith, there)) in
    let test : nat_lt (length bytes / size) (suc count) ≡ false = grind (arith, nat_tests) in
    let each = all_fit (length bytes) start size (suc count) some (omega (arith, there, more)) whole in
    rw (test, each) refl

-- a result that is no refusal has a value
value_of : {A E : Type 0} (answer : Result A E) → IsOk answer → (x : A) × (answer ≡ Ok x)
value_of answer fine = grind (arith, nat_tests)

is_ok : {A E : Type 0} (answer : Result A E) (x : A) → answer ≡ Ok x → IsOk answer
is_ok answer x is = rw is refl

not_ok : {A E : Type 0} (answer : Result A E) (e : E) → answer ≡ Err e → IsOk answer → ⊥
not_ok answer e is fine = let none = rw is at fine in cc

module _ (bytes : List ℕ) (offset count : ℕ) (ctx : Ctx) where
  abbrev size : ℕ
  size = section_header_size ctx.container

  abbrev read : List ℕ → SectionHeader
  read = section_header_of ctx.container ctx.le

  some : 0 < size
  some = (section_header_laws ctx.container ctx.le).size_positive

  -- if all headers that are counted lie in the file, their list isn't refused
  all_sections : (c most : ℕ)
      → Ok most ≡ count_from bytes offset c ctx → most ≤ (length bytes - offset) / size
      → section_headers_from bytes offset c ctx ≡ Ok (records size read most (drop offset bytes))
  all_sections c most is whole =
      from_is bytes offset c ctx most is
      ∙ whole_is_listed size read bytes offset most (codes "section headers") some whole

  -- a count above 0 is the number of headers if the first lies in the file
  counted : (c most : ℕ) → 0 < c → Ok most ≡ count_from bytes offset count ctx → Ok c ≡ count_from bytes offset c ctx
  counted c most above is = grind arith

  -- the list of the part, from the test whether all lie in the file
  sections_by : (most : ℕ) (all : Bool)
      → Ok most ≡ count_from bytes offset count ctx → (whole_sections bytes offset ctx most == most) ≡ all
      → IsListOfWhole (section_headers_from bytes offset count ctx)
      (section_headers_from bytes offset (if all then count else min (whole_sections bytes offset ctx most) 0xffff) ctx)
  sections_by most true is all =
      let whole : most ≤ (length bytes - offset) / size = grind (arith, nat_tests) in
      (is_ok _ _ (all_sections count most is whole), λ fine. refl)
  sections_by most false is all =
      let room = (unless_fault-is (room_of (length bytes) offset size) most (max 1 (count_asked bytes offset count ctx))
      is).0 in
      let first = fits-room_of (length bytes) offset size tt room in
      let one = (le-div_iff_mul-le {k = size} {x = 1} {y = length bytes - offset} some).1 (omega (arith, first)) in
      let room = room_of (length bytes) offset size in
      let m = (unless_fault-is room most (max 1 (count_asked bytes offset count ctx)) is).1 in
      let most_some : 1 ≤ most = omega (arith, m) in
      let c = min (whole_sections bytes offset ctx most) 0xffff in
      let c_some : 0 < c = omega (arith, one, most_some) in
      let c_whole : c ≤ (length bytes - offset) / size = omega arith in (
        is_ok _ _ (all_sections c c (counted c most c_some is) c_whole),
        λ fine.
            let found = value_of (section_headers_from bytes offset count ctx) fine in
            let whole = listed_is_whole size read bytes offset most (codes "section headers") found.0 some
            (sym (from_is bytes offset count ctx most is) ∙ found.1) in
            absurd (grind (arith, nat_tests)),
      )

  sections_cut : (answer : Result ℕ Error)
      → count_from bytes offset count ctx ≡ answer → (offset == 0) ≡ false
      → let part = cut_sections offset count (whole_sections bytes offset ctx) answer in
      IsListOfWhole (section_headers_from bytes offset count ctx)
      (section_headers_of bytes part.offset part.count ctx)
  sections_cut (Ok most) is later =
      rw later (sections_by most (whole_sections bytes offset ctx most == most) (sym is) refl)
  sections_cut (Err e) is later = grind (arith, first_refused)

  sections_from : (none : Bool)
      → (offset == 0) ≡ none
      → let part : WholePart = if none then record { offset = 0; count = count }
      else cut_sections offset count (whole_sections bytes offset ctx) (count_from bytes offset count ctx) in
      IsListOfWhole (if none then Ok [] else section_headers_from bytes offset count ctx)
      (section_headers_of bytes part.offset part.count ctx)
  sections_from true is = (refl, λ fine. refl)
  sections_from false is = sections_cut (count_from bytes offset count ctx) refl is

pub sections_of_whole : SectionsOfWhole
sections_of_whole bytes offset count ctx = sections_from bytes offset count ctx (offset == 0) refl

module _ (bytes : List ℕ) (offset : ℕ) (ctx : Ctx) where
  abbrev phsize : ℕ
  phsize = program_header_size ctx.container

  abbrev phread : List ℕ → ProgramHeader
  phread = program_header_of ctx.container ctx.le

  -- a number other than the escape is the number of segments
  stays : (number sections : ℕ) → number < 0xffff → segment_count bytes number sections ctx ≡ Ok number
  stays number sections small = grind arith

  -- if all headers that are counted lie in the file, their list isn't refused
  all_segments : (number sections count : ℕ)
      → segment_count bytes number sections ctx ≡ Ok count → count ≤ (length bytes - offset) / phsize
      → program_headers_of bytes number offset sections ctx ≡ Ok (records phsize phread count (drop offset bytes))
  all_segments number sections count is whole = grind (arith, whole_is_listed)

  listed_segments : (number sections n : ℕ) (all : List ProgramHeader)
      → segment_count bytes number sections ctx ≡ Ok n → program_headers_of bytes number offset sections ctx ≡ Ok all
      → n ≤ (length bytes - offset) / phsize
  listed_segments number sections n all is listed = grind (arith, listed_is_whole)

  module _ (number sections count : ℕ) where
    abbrev start : ℕ
    start = (sections_part bytes sections count ctx).offset

    -- the part from the test whether there are sections, and from the number of them
    abbrev part_by : Bool → Result ℕ Error → WholePart
    part_by none answer =
        if none then record { offset = 0; count = count }
        else cut_sections sections count (whole_sections bytes sections ctx) answer

    -- section 0 stays where the number of segments was read in it
    start_by : (none : Bool) (room : Result (Unit {0}) Misplaced) (n : ℕ)
        → (number == 0xffff) ≡ true → (sections == 0) ≡ none
        → room_of (length bytes) sections (section_header_size ctx.container) ≡ room
        → segment_count bytes number sections ctx ≡ Ok n
        → start ≡ sections
    start_by true room n escape none there is =
        let zero : 0 ≡ sections = grind (arith, nat_tests) in
        ap (λ (no : Bool). (part_by no (count_from bytes sections count ctx)).offset) none ∙ zero
    start_by false (Ok u) n escape none there is =
        let asked = max 1 (count_asked bytes sections count ctx) in
        ap (λ (no : Bool). (part_by no (count_from bytes sections count ctx)).offset) none
        ∙ ap (λ (room : Result (Unit {0}) Misplaced). (part_by false (unless_fault room asked)).offset) there
    start_by false (Err e) n escape none there is = let fault = rw (escape, none, there) at is in absurd (cc)

    kept_by : (escape : Bool) (n : ℕ)
        → (number == 0xffff) ≡ escape
        → segment_count bytes number sections ctx ≡ Ok n
        → segment_count bytes number start ctx ≡ Ok n
    kept_by true n escape is =
        let same = start_by (sections == 0) (room_of (length bytes) sections (section_header_size ctx.container)) n
        escape refl refl is in
        rw same is
    kept_by false n escape is = let same = rw escape at is in rw escape same

    -- the list of the part, from the test whether all lie in the file
    segments_by : (n : ℕ) (all : Bool)
        → segment_count bytes number sections ctx ≡ Ok n → (whole_segments bytes offset ctx n == n) ≡ all
        → IsListOfWhole (program_headers_of bytes number offset sections ctx)
        (program_headers_of bytes (if all then number else min (whole_segments bytes offset ctx n) 0xfffe) offset start
        ctx)
    segments_by n true is all =
        let whole : n ≤ (length bytes - offset) / phsize = grind (arith, nat_tests) in
        let part = all_segments number start n (kept_by (number == 0xffff) n refl is) whole in
        (is_ok _ _ part, λ fine. part ∙ sym (all_segments number sections n is whole))
    segments_by n false is all =
        let m = min (whole_segments bytes offset ctx n) 0xfffe in
        let small : m < 0xffff = omega arith in
        let m_whole : m ≤ (length bytes - offset) / phsize = omega arith in (
          is_ok _ _ (all_segments m start m (stays m start small) m_whole),
          λ fine.
              let found = value_of (program_headers_of bytes number offset sections ctx) fine in
              let whole = listed_segments number sections n found.0 is found.1 in
              absurd (grind (arith, nat_tests)),
        )

    segments_cut : (answer : Result ℕ Error)
        → segment_count bytes number sections ctx ≡ answer
        → IsListOfWhole (program_headers_of bytes number offset sections ctx)
        (program_headers_of bytes (cut_segments number (whole_segments bytes offset ctx) answer) offset start ctx)
    segments_cut (Ok n) is = segments_by n (whole_segments bytes offset ctx n == n) is refl
    segments_cut (Err e) is =
        let m = min (whole_segments bytes offset ctx 0xffff) 0xfffe in
        let small : m < 0xffff = omega arith in
        let m_whole : m ≤ (length bytes - offset) / phsize = omega arith in
        let refused : program_headers_of bytes number offset sections ctx ≡ Err (refusal_of e) = rw is refl in (
          is_ok _ _ (all_segments m start m (stays m start small) m_whole),
          λ fine. absurd (not_ok _ _ refused fine),
        )

pub segments_of_whole : SegmentsOfWhole
segments_of_whole bytes number offset sections count ctx =
    segments_cut bytes offset ctx number sections count (segment_count bytes number sections ctx) refl

pub headers_of_whole : WholeIsListed
headers_of_whole bytes h ctx = search (rules, sections_of_whole, segments_of_whole)
