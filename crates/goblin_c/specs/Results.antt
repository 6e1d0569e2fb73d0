-- What a call for C returns, a number, and what it stores where its caller points: an item, or a refusal with where in
-- the file the thing that is refused begins.
use Rattle.goblin_c.specs.Buffers.{laid}
use Rattle.goblin_c.specs.Common.{END, Error, Facts, GoblinRefusal, INVALID_UTF8, OK, PROGRAM_HEADERS, Refusal, Refused}
use Rattle.goblin_c.specs.Common.{SECTION_HEADERS, bytes_eq, kind_number, refusal_facts, refusal_of, refuse_as}
use Rattle.std.specs.Prelude.{Bool, Err, List, None, Ok, Option, Result, Some, codes, drop, if◌then◌else◌, length, map}
use Rattle.std.specs.Prelude.{min, slice_get, take, ℕ, ◌<◌, ◌≡◌, ◌≤◌}

-- a refusal, and the offset in the file of the thing that is refused
pub record RefusalAt : Type 0 where
  pub refusal : Refusal
  pub offset : ℕ

-- a result about what begins at an offset
abbrev pub refused_at : {X : Type 0} → ℕ → Result X Refusal → Result X RefusalAt
refused_at offset (Ok x) = Ok x
refused_at offset (Err refusal) = Err (record { refusal = refusal; offset = offset })

-- the same of the library's error
abbrev pub with_offset : {X : Type 0} → ℕ → Result X Error → Result X Refused
with_offset offset (Ok x) = Ok x
with_offset offset (Err e) = Err (record { error = e; offset = offset })

-- the refusal of an error with an offset
abbrev pub refusal_at : Refused → RefusalAt
refusal_at e = record { refusal = refusal_of e.error; offset = e.offset }

-- a result, seen by `view`, is the expected one, an error and its offset too
abbrev pub ReturnsAt : {X Y : Type 0} → (X → Y) → Result X Refused → Result Y RefusalAt → Type 0
ReturnsAt view (Ok x) expected = expected ≡ Ok (view x)
ReturnsAt view (Err e) expected = expected ≡ Err (refusal_at e)

-- 1 or 0
abbrev pub number_of_bool : Bool → ℕ
number_of_bool b = if b then 1 else 0

-- the number of an item, or 0 of any other text
abbrev pub item_number : List ℕ → ℕ
item_number text =
    if bytes_eq text (codes "invalid utf8") then INVALID_UTF8
    else if bytes_eq text (codes "section headers") then SECTION_HEADERS
    else if bytes_eq text (codes "program headers") then PROGRAM_HEADERS
    else 0

-- an error for C: its kind, its numbers and the number of its item, and where what is refused begins
abbrev pub facts_converted : Facts → ℕ → GoblinRefusal
facts_converted e offset = record {
  kind = kind_number e.kind;
  item = item_number e.item;
  first = e.first;
  second = e.second;
  third = e.third;
  fourth = number_of_bool e.overflow;
  offset = offset;
}

-- a refusal for C
abbrev pub refusal_converted : RefusalAt → GoblinRefusal
refusal_converted why = facts_converted (refusal_facts why.refusal) why.offset

-- the items for C of a list that a call returned
abbrev pub converted_list : {X Y : Type 0} → (X → List Y) → Result X Refused → Result (List Y) RefusalAt
converted_list listed (Ok all) = Ok (listed all)
converted_list listed (Err e) = Err (refusal_at e)

-- What a call returns and stores whose expected result is this, with a refusal for C: 0 and the item; 1 if there is
-- none; or the number of the kind, and the refusal. All else is unchanged.
abbrev pub Stored : {X : Type 0} → Result (Option X) GoblinRefusal → X → GoblinRefusal → ℕ → X → GoblinRefusal → Type 0
Stored (Ok (Some x)) old was status new why = (status ≡ OK) × (new ≡ x) × (why ≡ was)
Stored (Ok None) old was status new why = (status ≡ END) × (new ≡ old) × (why ≡ was)
Stored (Err refusal) old was status new why = (status ≡ refusal.kind) × (new ≡ old) × (why ≡ refusal)

-- So it is of a result whose refusal is converted.
abbrev pub Stores : {X : Type 0} → Result (Option X) RefusalAt → X → GoblinRefusal → ℕ → X → GoblinRefusal → Type 0
Stores expected old was status new why = Stored (refuse_as refusal_converted expected) old was status new why

-- The same of an index and the item there: both are stored, or neither.
abbrev pub StoresBoth : {X Y : Type 0}
    → Result (Option (X × Y)) RefusalAt → X → Y → GoblinRefusal → ℕ → X → Y → GoblinRefusal → Type 0
StoresBoth expected first second was status new_first new_second why =
    Stores expected (first, second) was status (new_first, new_second) why

-- What a call returns and stores that fills a buffer with the items from an index on: 0, as many items as the buffer
-- holds, and how many those are; 1 past the last item; or the number of the kind, and the refusal. All else is
-- unchanged.
abbrev pub Fills : {X : Type 0}
    → Result (Option (List X)) RefusalAt → List X → ℕ → GoblinRefusal → ℕ → List X → ℕ → GoblinRefusal → Type 0
Fills (Ok (Some xs)) old count was status new filled why =
    (status ≡ OK) × (new ≡ laid xs old) × (filled ≡ min (length xs) (length old)) × (why ≡ was)
Fills (Ok None) old count was status new filled why = (status ≡ END) × (new ≡ old) × (filled ≡ count) × (why ≡ was)
Fills (Err refusal) old count was status new filled why =
    (status ≡ (refusal_converted refusal).kind) × (new ≡ old) × (filled ≡ count) × (why ≡ refusal_converted refusal)

-- What a call returns and stores that goes through expected results, at the first that has no item, if there is one: 1,
-- or the number of the kind and the refusal. It returns 0 if all have items.
abbrev pub StopsAt : {X : Type 0} → Option (Result (Option X) RefusalAt) → GoblinRefusal → ℕ → GoblinRefusal → Type 0
StopsAt None was status why = (status ≡ OK) × (why ≡ was)
StopsAt (Some (Ok (Some x))) was status why = ⊥
StopsAt (Some (Ok None)) was status why = (status ≡ END) × (why ≡ was)
StopsAt (Some (Err refusal)) was status why =
    (status ≡ (refusal_converted refusal).kind) × (why ≡ refusal_converted refusal)

-- What a call returns and stores that fills a buffer with the items of expected results: the items of the first results
-- up to one that has none, in their order, and how many those are. The rest of the buffer is unchanged.
abbrev pub FillsEach : {X : Type 0}
    → List (Result (Option X) RefusalAt) → List X → GoblinRefusal → ℕ → List X → ℕ → GoblinRefusal → Type 0
FillsEach results old was status new filled why =
    (filled ≤ length results)
    × (map (λ x. Ok (Some x)) (take filled new) ≡ take filled results)
    × (drop filled new ≡ drop filled old)
    × StopsAt (slice_get results filled) was status why

-- the number of a refusal's kind, which a call returns, is above 1
abbrev pub KindsAreAboveOne : Type 0
KindsAreAboveOne = (refusal : RefusalAt) → 1 < (refusal_converted refusal).kind
