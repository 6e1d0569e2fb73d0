-- Lists of records that are read one after another.
--
-- A loop that reads one record after another keeps where it is, which records it has, and that the tests of room for
-- those that are left decide for all (`ReadSoFar`). So it ends with the list, or with the error of the first record
-- that doesn't lie in the bytes. A division finds that record: all fit (`all_fit`), or it is the one after those that
-- fit (`first_without`).
use Rattle.goblin_base.proofs.Common.{◌≡◌, ◌<◌, ◌≤◌, ◌+◌, ◌*◌, ◌/◌, ◌-◌, ℕ, zero, suc, List, [], ◌∷◌, ◌++◌, length}
use Rattle.goblin_base.proofs.Common.{take, drop, Result, Ok, Err, refl, sym, ap, ◌∙◌, arith, le-div_iff_mul-le}
use Rattle.goblin_base.proofs.Common.{nat_tests, drop-drop, take_rest, Error, unless_fault, ◌>>=◌, records, map, Option}
use Rattle.goblin_base.proofs.Common.{Some, None, slice_get, range_with_len, result_ok, rows, length-take-le}
use Rattle.goblin_base.proofs.Common.{length-drop, read_within, common_steps}
use Rattle.goblin_base.specs.Eager.{room_of_each, records_from, records_in}
use Rattle.goblin_base.specs.RecordLaws.{room_of_fits, fits-room_of, read_within-ok}
use Rattle.goblin_base.specs.Refusal.{buffer_too_short, misplaced, refusal_of}
use Rattle.goblin_base.specs.Room.{room_of}
use Rattle.goblin_base.specs.TableLaws.{no_records, records-take, slice, slice-is, first_record}
use Rattle.std.proofs.lemmas.List.FromFn.{length-map-range_with_len, map-range_with_len_more}
use Rattle.std.proofs.lemmas.Option.{slice_get_past}
use Rattle.goblin_base.specs.declared.scroll.Error.{Error as Misplaced}

-- ---- the records of a table
-- The record with an index is the one that its own bytes are read as (`get_records`). These are as many as it needs, so
-- reading them doesn't fail (`read_field`, `read_first`). What an iterator takes is the first record, and what is left
-- are the records of the bytes after it (`next_is`).

pub length_records : {R : Type 0} (size : ℕ) (read : List ℕ → R) (n : ℕ) (bytes : List ℕ)
    → length (records size read n bytes) ≡ n
unfolding records
length_records size read n bytes = omega (arith, length-map-range_with_len)

get_mapped : {R : Type 0} (f : ℕ → R) (a n i : ℕ) → i < n → slice_get (map f (range_with_len a n)) i ≡ Some (f (a + i))
get_mapped f a zero i h = absurd (omega arith)
get_mapped f a (suc n) zero h = ap (λ (k : ℕ). Some (f k)) (omega arith)
get_mapped f a (suc n) (suc i) h = get_mapped f (a + 1) n i (omega arith) ∙ ap (λ (k : ℕ). Some (f k)) (omega arith)

-- the record with an index
pub get_records : {R : Type 0} (size : ℕ) (read : List ℕ → R) (n : ℕ) (bytes : List ℕ) (i : ℕ)
    → i < n → slice_get (records size read n bytes) i ≡ Some (read (take size (drop (i * size) bytes)))
unfolding records slice
get_records size read n bytes i h = grind (arith, get_mapped)

pub read_within_fits : {R : Type 0} (size : ℕ) (read : List ℕ → R) (bytes : List ℕ)
    → size ≤ length bytes → read_within size read bytes ≡ Ok (read bytes)
read_within_fits size read bytes h =
    sym (read_within-ok size size read bytes tt (read bytes) refl
    (sym (room_of_fits (length bytes) 0 size (omega arith))) refl)

-- reading a record from its own bytes only
pub read_field : {R : Type 0} (size : ℕ) (read : List ℕ → R) (bytes : List ℕ) (start : ℕ)
    → start + size ≤ length bytes
    → read_within size read (take (start + size - start) (drop start bytes)) ≡ Ok (read (take size (drop start bytes)))
read_field size read bytes start h = grind (arith, length-take-le, length-drop, read_within_fits)

pub read_first : {R : Type 0} (size : ℕ) (read : List ℕ → R) (bytes : List ℕ)
    → size ≤ length bytes → read_within size read (take size bytes) ≡ Ok (read (take size bytes))
read_first size read bytes h = read_within_fits size read (take size bytes) (omega (arith, length-take-le size bytes h))

pub past_records : {R : Type 0} (size : ℕ) (read : List ℕ → R) (n : ℕ) (bytes : List ℕ) (i : ℕ)
    → n ≤ i → slice_get (records size read n bytes) i ≡ None
past_records size read n bytes i h = omega (arith, slice_get_past, length_records)

pub last_record : {R : Type 0} (size : ℕ) (read : List ℕ → R) (n : ℕ) (bytes : List ℕ)
    → records size read (n + 1) bytes ≡ records size read n bytes ++ read (take size (drop (n * size) bytes)) ∷ []
unfolding records slice
last_record size read n bytes =
    map-range_with_len_more (λ i. read (slice size bytes i)) 0 n n (omega arith)
    ∙ ap (λ part. map (λ i. read (slice size bytes i)) (range_with_len 0 n) ++ read part ∷ []) (slice-is size bytes n)

-- the next record of an iterator, and those left after it
pub next_is : {R : Type 0} {size s n : ℕ} {items : List R} {found : Result R Error} {answer : Option R}
    (read : List ℕ → R) (bytes : List ℕ)
    → s ≡ size → records size read n bytes ≡ items → n * size ≤ length bytes → 0 < n
    → found ≡ read_within size read (take s bytes) → answer ≡ result_ok found
    → (answer ≡ Some (read (take size bytes)))
    × (items ≡ read (take size bytes) ∷ records size read (n - 1) (take (length bytes - s) (drop s bytes)))
next_is {size = size} {n = n} read bytes same is fits below read_is ok_is =
    let room : size ≤ length bytes = grind (arith, common_steps, rows) in (
      rw same at (ok_is ∙ ap result_ok read_is) ∙ ap result_ok (read_first size read bytes room),
      sym is
          ∙ first_record size read n bytes below
          ∙ ap (λ (left : List ℕ). read (take size bytes) ∷ records size read (n - 1) left)
          (sym (rw same (take_rest bytes size))),
    )

pub ruleset record_steps =
    (length_records, get_records, past_records, read_field, read_first, no_records, first_record, rows)

-- ---- lists of records that are read one after another

-- after a record was read one less is left
one_less : (len place size count i : ℕ) (u : Unit {0})
    → i < count → room_of len place size ≡ Ok u
    → room_of_each len place size (count - i) ≡ room_of_each len (place + size) size (count - (i + 1))
one_less len place size count i u h room = grind arith

-- Reading `count` records one after another from `offset` on, when `i` of them are read:
--
--     offset                 place            offset + count * size
--     | record 0 | .. | i-1 | record i | .. |
--     '---- found ----------' '--- left ----'
pub record ReadSoFar {R : Type 0} (size : ℕ) (read : List ℕ → R) (bytes : List ℕ) (offset count i place : ℕ)
    (found : List R) : Type 0 where
  pub there : place ≡ offset + i * size
  pub left : room_of_each (length bytes) place size (count - i) ≡ room_of_each (length bytes) offset size count
  pub gave : found ≡ records size read i (drop offset bytes)

-- the record at an offset, or the error of room
abbrev read_there : {R : Type 0} → ℕ → (List ℕ → R) → List ℕ → ℕ → Result R Error
read_there size read bytes place =
    unless_fault (room_of (length bytes) place size) (read (take size (drop place bytes)))

-- i + 1 records are the first i and the one at `place`
one_more : {R : Type 0} (size : ℕ) (read : List ℕ → R) (bytes : List ℕ) (offset i place : ℕ)
    → place ≡ offset + i * size
    → records size read (i + 1) (drop offset bytes)
    ≡ records size read i (drop offset bytes) ++ read (take size (drop place bytes)) ∷ []
one_more size read bytes offset i place at = grind (arith, drop-drop, last_record)

module _ {R : Type 0} {size : ℕ} {read : List ℕ → R} {bytes : List ℕ} {offset count : ℕ} where
  pub none_read : ReadSoFar size read bytes offset count 0 offset []
  none_read = record {
    there = omega arith;
    left = ap (room_of_each (length bytes) offset size) (omega arith);
    gave = sym (no_records size read 0 (drop offset bytes) refl);
  }

  pub next_read : {s i place : ℕ} {found : List R} {x : R}
      → ReadSoFar size read bytes offset count i place found → s ≡ size → i < count
      → Ok x ≡ read_there size read bytes place
      → ReadSoFar size read bytes offset count (i + 1) (place + s) (found ++ x ∷ [])
  next_read {i = i} {place = place} {x = x} before same h e = grind (arith, one_less, one_more)

  pub all_read : {s i place : ℕ} {found : List R} (items : List ℕ)
      → ReadSoFar size read bytes offset count i place found → s ≡ size → i ≡ count → count ≤ length bytes / s
      → records_from size read bytes offset count items ≡ Ok found
  unfolding records_from
  all_read {i = i} {place = place} items before same all enough = grind arith

  -- the record at `place` doesn't lie in the bytes
  refused : {s i place : ℕ} {found : List R} {d : Misplaced} (items : List ℕ)
      → ReadSoFar size read bytes offset count i place found → s ≡ size → i < count → count ≤ length bytes / s
      → room_of (length bytes) place size ≡ Err d
      → records_from size read bytes offset count items ≡ Err (misplaced d)
  unfolding records_from
  refused {i = i} {d = d} items before same h enough fault = grind arith

  pub no_room : {s i place : ℕ} {found : List R} {e : Error} (items : List ℕ)
      → ReadSoFar size read bytes offset count i place found → s ≡ size → i < count → count ≤ length bytes / s
      → Err e ≡ read_there size read bytes place
      → records_from size read bytes offset count items ≡ Err (refusal_of e)
  no_room {place = place} {e = e} items before same h enough is = grind (arith, refused)

-- after k records that lie in the bytes the others are tested from there on
fitting : (len offset size count k : ℕ)
    → k ≤ count → offset + k * size ≤ len
    → room_of_each len offset size count ≡ room_of_each len (offset + k * size) size (count - k)
fitting len offset size count zero h fits = grind arith
fitting len offset size zero (suc k) h fits = absurd (omega arith)
fitting len offset size (suc count) (suc k) h fits =
    let there : offset + suc k * size ≡ offset + size + k * size = omega arith in
    let left : suc count - suc k ≡ count - k = omega arith in
    rw (room_of_fits len offset size (omega arith), there, left)
    (fitting len (offset + size) size count k (omega arith) (omega arith))

-- the records all lie in the bytes if their number is at most the bytes left, divided by the size
pub all_fit : (len offset size count : ℕ)
    → 0 < size → offset ≤ len → count ≤ (len - offset) / size → room_of_each len offset size count ≡ Ok tt
all_fit len offset size count some before h =
    let both = le-div_iff_mul-le {k = size} {x = count} {y = len - offset} some in
    let room = both.0 h in
    let none : count - count ≡ 0 = omega arith in
    fitting len offset size count count (omega arith) (omega arith) ∙ rw none refl

-- the first error is the result
refused_first : (room : Result (Unit {0}) Misplaced) (rest : Result (Unit {0}) Misplaced)
    → (room ≡ Ok tt → ⊥) → (room >>= (λ _. rest)) ≡ room
refused_first room rest fails = grind (arith, nat_tests)

-- otherwise the first record that doesn't is the one after those that do
pub first_without : (len offset size count : ℕ)
    → 0 < size → offset ≤ len → (len - offset) / size < count
    → room_of_each len offset size count ≡ room_of len (offset + (len - offset) / size * size) size
first_without len offset size count some before h =
    let k = (len - offset) / size in
    let place = offset + k * size in
    let left : count - k ≡ suc (count - (k + 1)) = omega arith in
    let fails : room_of len place size ≡ Ok tt → ⊥ =
    λ e. (let fits = fits-room_of len place size tt e in omega arith) in
    fitting len offset size count k (omega arith) (omega arith)
    ∙ rw left (refused_first (room_of len place size) (room_of_each len (place + size) size (count - (k + 1))) fails)

-- more records than all the bytes could hold are refused as such
pub too_many : {R : Type 0} (size s : ℕ) (read : List ℕ → R) (bytes : List ℕ) (offset count : ℕ) (items : List ℕ)
    → s ≡ size → length bytes / s < count
    → records_from size read bytes offset count items ≡ Err (buffer_too_short count items)
unfolding records_from
too_many size s read bytes offset count items same h = rw (← same) (grind (arith, nat_tests))

-- otherwise both definitions of a list say the same
pub not_too_many : {R : Type 0} (size s : ℕ) (read : List ℕ → R) (bytes : List ℕ) (offset count : ℕ) (items : List ℕ)
    → s ≡ size → count ≤ length bytes / s
    → records_in size read bytes offset count ≡ records_from size read bytes offset count items
unfolding records_in records_from
not_too_many size s read bytes offset count items same enough = grind arith

-- the records of a range depend on that range only
pub take_same : {R : Type 0} (size : ℕ) (read : List ℕ → R) (n : ℕ) (bytes : List ℕ)
    → records size read n bytes ≡ records size read n (take (n * size) bytes)
take_same size read n bytes = sym (records-take size read n bytes)

-- for the functions that read lists, and for the law of a range
pub ruleset lists = (no_records, take_rest, read_field, fits-room_of)

-- as many records fit as the division says
pub fit-div : (len size count : ℕ)
    → 0 < size → (count ≤ len / size → count * size ≤ len) × (count * size ≤ len → count ≤ len / size)
fit-div len size count some = le-div_iff_mul-le {k = size} {x = count} {y = len} some

pub ruleset quotients = (fit-div)

pub ruleset rooms = (all_fit, first_without)

pub ruleset same = (take_same)
