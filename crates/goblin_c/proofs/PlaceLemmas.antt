-- Offsets of addresses, numbers in ranges, and ranges that are cut to the file.
--
-- Cutting a range to the file keeps its bytes, because no range has bytes past the file's end (`same_bytes`). A number
-- is read only after the tests of room for its range and for itself (`numbers_lie_in_range`). The library's search
-- stops at the first segment that passes its test (`first_loads`, `none_loads`), and the test is the one that is stated
-- for C (`loads-Decides`).
use Rattle.goblin.specs.ProgramHeaders.{loads, offset_in}
use Rattle.goblin_base.specs.declared.scroll.Error.{Error as Misplaced}
use Rattle.goblin_c.proofs.Common.{Decides, Err, GoblinHeader, List, None, Ok, Option, Result, Some, arith, drop}
use Rattle.goblin_c.proofs.Common.{fits-room_of, get_or_from_slice_get, length, length-drop, nat_tests, option_map}
use Rattle.goblin_c.proofs.Common.{position_or_len, refl, refuse_as, room_of, room_of_fits, segments_expected}
use Rattle.goblin_c.proofs.Common.{slice_get, slice_get-map, slice_get_within, sym, true, ℕ, ◌<◌, ◌>>=◌, ◌∙◌, ◌≡◌}
use Rattle.goblin_c.proofs.{BufferLemmas.ends-before, ListLemmas.converted_one, ListLemmas.fails_before}
use Rattle.goblin_c.specs.Numbers.{IsSlice, NumbersAreFound, NumbersLieInRange, PartsLieInFile}
use Rattle.goblin_c.specs.Segments.{AddressesAreLoaded, IsOffsetOf, LoadsByte, LoadsFirst, offset_in_file}
use Rattle.goblin_c.specs.{Common.ProgramHeader, Common.misplaced, Laws.BytesAreFound, Notes.NotesRefuseThere}
use Rattle.goblin_c.specs.{Results.refused_at, Segments.segment_converted, Segments.segment_expected}
use Rattle.goblin_c.specs.{declared.segments.GoblinSegment.GoblinSegment}
use Rattle.std.proofs.Common.{false, find, inr, subst, true≢false}
use Rattle.std.proofs.{Math.Seq.take-nil, lemmas.List.drop_all, lemmas.List.take_min, lemmas.List.Folds.find_at}
use Rattle.std.proofs.{lemmas.List.Sums.passes_at_first}

-- the part of a range has the same bytes of the file
pub parts_lie_in_file : PartsLieInFile
parts_lie_in_file bytes range =
    let rest_size = length-drop range.offset bytes in
    let cut = take_min range.size (drop range.offset bytes) in
    grind (arith, rest_size, cut, drop_all (length bytes) bytes, drop_all range.offset bytes, take-nil)

-- a number in a range was read after the tests of room for both
pub numbers_lie_in_range : NumbersLieInRange
numbers_lie_in_range bytes h range offset width value is = grind (arith, nat_tests, fits-room_of)

-- the first segment that loads an address stands at some index, and none before it does
abbrev FirstLoads : ℕ → List ProgramHeader → ProgramHeader → Type 0
FirstLoads address items s =
    (index : ℕ) × ((slice_get items index ≡ Some s) × (loads address s ≡ true)
    × ((k : ℕ) (x : ProgramHeader) → k < index → slice_get items k ≡ Some x → loads address x ≡ false))

first_loads : (address : ℕ) (items : List ProgramHeader) (s : ProgramHeader)
    → find (loads address) items ≡ Some s → FirstLoads address items s
first_loads address items s is =
    let index = position_or_len (loads address) items in
    let there : slice_get items index ≡ Some s = sym (find_at (loads address) items) ∙ is in (
      index,
      let passes = passes_at_first (loads address) items s in
          let item = get_or_from_slice_get items index s s there in
          grind (arith, there, passes, slice_get_within items index s there, item, fails_before),
    )

none_loads : (address : ℕ) (items : List ProgramHeader)
    → find (loads address) items ≡ None
    → (k : ℕ) (y : ProgramHeader) → slice_get items k ≡ Some y → loads address y ≡ false
none_loads address items none k y found = grind (arith, nat_tests, ends-before, fails_before, find_at, slice_get_within)

-- the library's test is the one for C
loads-Decides : (address : ℕ) (x : ProgramHeader) → Decides (loads address x) (LoadsByte address (segment_converted x))
loads-Decides address x = grind (arith, nat_tests)

module _ (bytes : List ℕ) (h : GoblinHeader) (address : ℕ) (short : IsSlice bytes) (items : List ProgramHeader)
    (is : segments_expected bytes h ≡ Ok items) where
  -- a segment for C that is stored, and that the library's test passes
  not_loaded : (k : ℕ) (y : GoblinSegment)
      → segment_expected bytes h k ≡ Ok (Some y)
      → ((x : ProgramHeader) → slice_get items k ≡ Some x → loads address x ≡ false)
      → ¬ (LoadsByte address y)
  not_loaded k y stored fails so =
      let one = converted_one segment_converted items k y (rw is at stored) in
      true≢false (sym ((loads-Decides address one.0).1 (subst (LoadsByte address) one.2 so)) ∙ fails one.0 one.1)

  loads_first : (s : ProgramHeader) (first : FirstLoads address items s)
      → LoadsFirst bytes h address first.0 (segment_converted s)
  loads_first s first = grind (arith, nat_tests, loads-Decides, not_loaded, slice_get-map)

  by_room : (s : ProgramHeader) (first : FirstLoads address items s) (room : Result (Unit {0}) Misplaced)
      → room_of (length bytes) (offset_in address s) 1 ≡ room
      → IsOffsetOf bytes h address
      (refused_at (offset_in address s) (refuse_as misplaced room) >>= λ _. Ok (Some (offset_in address s)))
  by_room s first (Ok u) there =
      let fits = fits-room_of (length bytes) (offset_in address s) 1 u there in
      (first.0, (segment_converted s, loads_first s first, omega (arith, fits, short), omega (arith, fits)))
  by_room s first (Err e) there = inr (
    first.0,
    (
      segment_converted s,
      loads_first s first,
      grind (arith, nat_tests, room_of_fits (length bytes) (offset_in address s) 1),
      refl,
    ),
  )

  by_found : (found : Option ProgramHeader)
      → find (loads address) items ≡ found
      → IsOffsetOf bytes h address (offset_in_file bytes (option_map (offset_in address) found))
  by_found (Some s) found =
      by_room s (first_loads address items s found) (room_of (length bytes) (offset_in address s) 1) refl
  by_found None found = λ k y stored. not_loaded k y stored (λ x there. none_loads address items found k x there)

pub addresses_are_loaded : AddressesAreLoaded
addresses_are_loaded bytes h address short =
    let found = λ (items : List ProgramHeader) (is : segments_expected bytes h ≡ Ok items).
    by_found bytes h address short items is (find (loads address) items) refl in
    grind (arith, found)

-- ---- What lies in the file is found, and else refused at its offset: the test of room passes exactly if it does.

pub bytes_are_found : BytesAreFound
unfolding room_of
bytes_are_found = grind (arith, nat_tests)

pub numbers_are_found : NumbersAreFound
unfolding room_of
numbers_are_found bytes h range offset width known = grind (arith, nat_tests, known)

pub notes_refuse_there : NotesRefuseThere
notes_refuse_there offset e = grind (arith, nat_tests)
