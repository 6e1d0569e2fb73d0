-- Strings at the ranges that calls store, and what is found by its name.
--
-- A string that a call stores was read at an offset of the string table (`string_is`), and the table's bytes are those
-- of its range (`in_range`): so the string stands in the file at both offsets together (`piece_there`). The library's
-- look-up passes a name exactly if a call stores a string with its bytes (`named-Decides`), so the first item that it
-- finds is the first with that name (`by_name`).
use Rattle.goblin_base.specs.{Pieces.piece, Strtab.has_name, Strtab.range_in, Wanted.is_piece, Wanted.starts_piece}
use Rattle.goblin_c.proofs.BufferLemmas.{kinds_are_above_one}
use Rattle.goblin_c.proofs.Common.{Decides, GoblinRange, List, Ok, Option, Result, Some, [], ap, arith, closed_len}
use Rattle.goblin_c.proofs.Common.{drop, fits-room_of, length, length-drop, length-take, length-take-le, mod-eq_of_lt}
use Rattle.goblin_c.proofs.Common.{nat_tests, position_or_len, refl, refuse_as, slice_get, slice_get-get_or}
use Rattle.goblin_c.proofs.Common.{string_expected, suc, take, true, zero, ℕ, ◌+◌, ◌-◌, ◌<◌, ◌==◌, ◌>>=◌, ◌∷◌, ◌≡◌, ◌≤◌}
use Rattle.goblin_c.proofs.ListLemmas.{finds, fits_in, sections, symbols}
use Rattle.goblin_c.specs.Common.{GoblinRefusal, Refused, SectionHeader, Sym}
use Rattle.goblin_c.specs.Sections.{SectionsByName, section_converted, section_expected, sections_expected}
use Rattle.goblin_c.specs.Strings.{IsCString, IsNameAt, RefusesInTurn, StringsAreBytes, StringsAreCompared}
use Rattle.goblin_c.specs.Strings.{StringsAreThere, StringsLieInFile, BytesAreText, is_named, string_closed_expected}
use Rattle.goblin_c.specs.Symbols.{SymbolsByName, symbol_converted, symbol_expected, symbols_expected}
use Rattle.goblin_c.specs.{Items.first_item, Laws.BytesLieInFile, Laws.EmptyHaveNoBytes, Laws.TextIsFound}
use Rattle.goblin_c.specs.{Numbers.bytes_in, Results.ReturnsAt, Results.Stores, Results.refusal_at}
use Rattle.goblin_c.specs.{Strings.strings_expected}
use Rattle.std.proofs.Common.{Bool, if◌then◌else◌, position, slice_index}
use Rattle.std.proofs.lemmas.List.Sums.{fails_before_first, passes_at_first, prefix_len-le-length}
use Rattle.std.proofs.lemmas.List.{drop-take, get_or-drop, get_or-take, take_min}
use Rattle.std.proofs.{Math.Seq.drop-drop, Math.Seq.take-take, lemmas.Slice.Eq.bytes_eq-Decides}
use Rattle.std.specs.Prelude.{IsErr, ◌≢◌}
use Rattle.std.specs.{List.before_first, Str.is_utf8}

-- the strings of a range are its bytes, and lie in the file
pub in_range : (bytes : List ℕ) (range : GoblinRange) (found : List ℕ)
    → strings_expected bytes range ≡ Ok found
    → (found ≡ bytes_in bytes range) × (range.offset + range.size ≤ length bytes)
unfolding range_in
in_range bytes range found is = grind (arith, nat_tests)

-- what stands before the first byte that passes a test, among the first bytes, stands in front of all
in_front : (test : ℕ → Bool) (n : ℕ) (all : List ℕ)
    → take (length (before_first test (take n all))) all ≡ before_first test (take n all)
in_front test n all = grind (arith, nat_tests, length-take, take-take, take_min)

-- where a string lies that was read
abbrev place_of : GoblinRange → ℕ → List ℕ → GoblinRange
place_of range offset text = record { offset = range.offset + offset; size = length text }

-- so the bytes at the range of a string are the piece at its offset
piece_is_there : (bytes : List ℕ) (range : GoblinRange) (offset : ℕ) (strings : List ℕ)
    → strings_expected bytes range ≡ Ok strings → offset < length strings
    → bytes_in bytes (place_of range offset (piece strings 0 offset)) ≡ piece strings 0 offset
unfolding piece
piece_is_there bytes range offset strings found before =
    let all = drop range.offset bytes in
    let n = range.size - offset in
    let is = in_range bytes range strings found in
    let enough : offset + n ≡ range.size = omega (arith, ap length is.0, length-take range.size all) in
    let front = in_front (λ b. b == 0) n (drop offset all) in
    grind (arith, is, enough, drop-take offset n all, drop-drop offset range.offset bytes, front)

pub strings_are_there : StringsAreThere
strings_are_there bytes range offset place is = grind (arith, nat_tests, piece_is_there bytes range offset)

-- a string has a name where the piece is the name, which is if a call stores the range of a string with these bytes
named-Decides : (bytes : List ℕ) (names : GoblinRange) (name strings : List ℕ) (offset : ℕ)
    → strings_expected bytes names ≡ Ok strings
    → Decides (is_named strings name offset) (IsNameAt bytes names offset name)
unfolding is_piece
named-Decides bytes names name strings offset found =
    let same = bytes_eq-Decides (piece strings 0 offset) name in
    let there = piece_is_there bytes names offset strings found in (
      λ is.
          let own = place_of names offset (piece strings 0 offset) in
          (own, grind (arith, nat_tests), grind (arith, nat_tests, same, there)),
      λ place. grind (arith, nat_tests, same, there, place.1, place.2),
    )

-- so the first item that the search finds is the first with the name
pub sections_by_name : SectionsByName
sections_by_name bytes h names name first are =
    let test = λ (strings : List ℕ) (section : SectionHeader). is_named strings name section.sh_name in
    let found = λ (read : List ℕ) (items : List SectionHeader) (is : strings_expected bytes names ≡ Ok read)
    (own : sections_expected bytes h ≡ Ok items).
    finds section_converted (λ section. IsNameAt bytes names section.sh_name name) (test read) items
    (λ k section there.
    let fits = fits_in (sections h) bytes items k section are own there in
    grind (arith, mod-eq_of_lt, fits, named-Decides bytes names name read section.sh_name is))
    (RefusesInTurn (section_expected bytes h) (string_expected bytes names)) first
    (position (test read) (drop first items)) refl in
    grind (arith, found)

pub symbols_by_name : SymbolsByName
symbols_by_name bytes h range names name first are =
    let test = λ (strings : List ℕ) (symbol : Sym). is_named strings name symbol.st_name in
    let found = λ (read : List ℕ) (items : List Sym) (is : strings_expected bytes names ≡ Ok read)
    (own : symbols_expected bytes h range ≡ Ok items).
    finds symbol_converted (λ symbol. IsNameAt bytes names symbol.st_name name) (test read) items
    (λ k symbol there.
    let fits = fits_in (symbols h range) bytes items k symbol are own there in
    grind (arith, mod-eq_of_lt, fits, named-Decides bytes names name read symbol.st_name is))
    (RefusesInTurn (symbol_expected bytes h range) (string_expected bytes names)) first
    (position (test read) (drop first items)) refl in
    grind (arith, found)

-- ---- strings that are compared where they lie: comparing the piece is comparing the bytes at its range
pub strings_are_compared : StringsAreCompared
unfolding is_piece starts_piece
strings_are_compared = grind (arith, nat_tests, piece_is_there)

-- whether a piece is a name that is UTF-8: it has the same bytes, and so is UTF-8, too
name_compared : (strings : List ℕ) (name : List ℕ) (offset : ℕ)
    → is_utf8 name ≡ true → is_piece strings 0 offset name ≡ has_name strings 0 offset name
unfolding is_piece has_name
name_compared strings name offset is = grind (arith, nat_tests, bytes_eq-Decides (piece strings 0 offset) name)

pub text_is_found : TextIsFound
text_is_found = record {
  section = λ bytes h names name first is j.
      sections_expected bytes h >>= λ sections. strings_expected bytes names >>= λ strings.
      Ok (first_item section_converted (λ section. name_compared strings name section.sh_name is j) first sections);
  symbol = λ bytes h range names name first is j.
      symbols_expected bytes h range >>= λ symbols. strings_expected bytes names >>= λ strings.
      Ok (first_item symbol_converted (λ symbol. name_compared strings name symbol.st_name is j) first symbols);
}

-- a range that lies in the file has its bytes, and any other is refused
pub inside_is : (bytes : List ℕ) (range : GoblinRange)
    → range.offset + range.size ≤ length bytes
    → strings_expected bytes range ≡ Ok (drop range.offset (take (range.offset + range.size) bytes))
unfolding range_in
inside_is bytes range within = grind (arith, nat_tests, drop-take)

pub outside_is : (bytes : List ℕ) (range : GoblinRange)
    → length bytes < range.offset + range.size → IsErr (strings_expected bytes range)
unfolding range_in
outside_is bytes range past = grind (arith, nat_tests)

pub ruleset inside = (inside_is, outside_is)

-- ---- where the bytes of stored ranges lie
-- A range is stored only after the test of room for it. The bytes of a string are the piece at its offset, which is no
-- longer than the strings from there on.
pub bytes_lie_in_file : BytesLieInFile
unfolding piece
bytes_lie_in_file = grind (arith, nat_tests, in_range, length-drop, length-take, fits-room_of)

pub empty_have_no_bytes : EmptyHaveNoBytes
empty_have_no_bytes = grind (arith, nat_tests)

-- a string that is text lies where its bytes do
pub strings_are_bytes : StringsAreBytes
strings_are_bytes bytes range offset found is = grind (arith, nat_tests)

-- and one that is UTF-8 is read as text
pub text_is_utf8 : BytesAreText
text_is_utf8 bytes range offset found is text = grind (arith, nat_tests, piece_is_there bytes range offset)

pub strings_lie_in_file : StringsLieInFile
strings_lie_in_file bytes range offset found is = grind (arith, nat_tests, bytes_lie_in_file, strings_are_bytes)

pub ruleset place_laws = (bytes_lie_in_file, empty_have_no_bytes, strings_are_bytes, text_is_utf8)

-- ---- Strings that a zero byte closes.
--
-- If a piece ends before the strings do, the byte after it is the zero byte that ends it (`zero-after`), and no byte
-- of it is zero (`none-before`). So the range that is stored for it is a C string (`is_c_string`).

-- a string that ends before its strings do
module _ (bytes : List ℕ) (range : GoblinRange) (offset : ℕ) (strings : List ℕ)
    (found : strings_expected bytes range ≡ Ok strings)
    (closed : offset + length (piece strings 0 offset) < length strings) where
  abbrev rest : List ℕ
  rest = drop offset strings

  abbrev end : ℕ
  end = position_or_len (λ b. b == 0) rest

  size : length (piece strings 0 offset) ≡ end
  unfolding piece
  size = grind (arith, nat_tests, length-take-le, prefix_len-le-length)

  -- the byte after it is zero
  zero-after : slice_get bytes (range.offset + offset + length (piece strings 0 offset)) ≡ Some 0
  zero-after =
      let k = offset + end in
      let passes = passes_at_first (λ b. b == 0) rest 0 in
      let lies = in_range bytes range strings found in
      let taken = length-take range.size (drop range.offset bytes) in
      let dropped = get_or-drop range.offset bytes k 0 in
      let took = get_or-take range.size (drop range.offset bytes) k 0 in
      let dropped_is = get_or-drop offset strings end 0 in
      let byte_is = slice_get-get_or bytes (range.offset + k) 0 in
      grind (arith, nat_tests, passes, size, lies, taken, dropped, length-drop, took, dropped_is, byte_is)

  closed_is : IsCString bytes (place_of range offset (piece strings 0 offset))
  unfolding piece
  closed_is = grind (arith, nat_tests, fails_before_first, get_or-take, length-take, piece_is_there, zero-after)

-- of the first bytes the last one is the last zero byte, or it doesn't count
pub closed_last : (bytes : List ℕ) (n : ℕ)
    → n < length bytes
    → closed_len (take (suc n) bytes) ≡ (if slice_index bytes n == 0 then suc n else closed_len (take n bytes))
closed_last [] n before = absurd (omega (arith, before))
closed_last (b ∷ rest) zero before = grind (arith, nat_tests)
closed_last (b ∷ rest) (suc n) before = grind (arith, nat_tests, closed_last rest n)

pub closed_shorter : (bytes : List ℕ) (n : ℕ)
    → 0 < n → n ≤ length bytes → slice_index bytes (n - 1) ≢ 0
    → closed_len (take n bytes) ≡ closed_len (take (n - 1) bytes)
closed_shorter bytes zero some few other = absurd (omega (arith, some))
closed_shorter bytes (suc n) some few other = grind (arith, nat_tests, closed_last bytes n)

pub closed_whole : (bytes : List ℕ) (n : ℕ)
    → 0 < n → n ≤ length bytes → slice_index bytes (n - 1) ≡ 0 → closed_len (take n bytes) ≡ n
closed_whole bytes zero some few is = absurd (omega (arith, some))
closed_whole bytes (suc n) some few is = grind (arith, nat_tests, closed_last bytes n)

-- what a call stores at 0 is a C string
pub is_c_string : (bytes : List ℕ) (range : GoblinRange) (offset : ℕ) (result : Result (Option GoblinRange) Refused)
    (old new : GoblinRange) (was why : GoblinRefusal) (status : ℕ)
    → ReturnsAt (λ found. found) result (string_closed_expected bytes range offset)
    → Stores (refuse_as refusal_at result) old was status new why → status ≡ 0 → IsCString bytes new
is_c_string bytes range offset result old new was why status is stores ok =
    grind (arith, nat_tests, kinds_are_above_one, closed_is bytes range offset)

-- a string that ends before the strings do is closed
pub closed_there : (bytes : List ℕ) (range : GoblinRange) (offset : ℕ) (strings : List ℕ) (size : ℕ)
    → strings_expected bytes range ≡ Ok strings → offset < length strings → size ≡ length (piece strings 0 offset)
    → size ≢ length strings - offset
    → string_closed_expected bytes range offset
    ≡ Ok (Some (record { offset = range.offset + offset; size = size }))
unfolding piece
closed_there bytes range offset strings size found before is other =
    grind (arith, nat_tests, length-drop, length-take)
