-- The items of a list for C: how many there are, one at an index, those from an index on, and the first that passes a
-- test.
use Rattle.goblin_c.specs.Common.{option_map, ◌>>=◌}
use Rattle.goblin_c.specs.Results.{RefusalAt}
use Rattle.std.specs.Prelude.{Bool, Err, List, None, Ok, Option, Result, Some, drop, if◌then◌else◌, length, map, nat_le}
use Rattle.std.specs.Prelude.{position, slice_get, ℕ, ◌+◌, ◌<◌, ◌≡◌, ◌≤◌}

-- the items of a list for C
abbrev pub each_converted : {X Y : Type 0} → (X → Y) → Result (List X) RefusalAt → Result (List Y) RefusalAt
each_converted convert list = do
  items ← list
  Ok (map convert items)

-- how many items a list has
abbrev pub count_of : {X : Type 0} → Result (List X) RefusalAt → Result (Option ℕ) RefusalAt
count_of list = do
  items ← list
  Ok (Some (length items))

-- its item at an index: none past the last one
abbrev pub item_at : {X : Type 0} → Result (List X) RefusalAt → ℕ → Result (Option X) RefusalAt
item_at list index = do
  items ← list
  Ok (slice_get items index)

-- its items from an index on: none past the last one
abbrev pub items_from : {X : Type 0} → Result (List X) RefusalAt → ℕ → Result (Option (List X)) RefusalAt
items_from list first = do
  items ← list
  Ok (if nat_le (length items) first then None else Some (drop first items))

-- the index and the item for C of the first item that passes a test, from an index on
abbrev pub found_item : {X Y : Type 0} → (X → Y) → List X → Option ℕ → Option (ℕ × Y)
found_item convert items None = None
found_item convert items (Some index) = option_map (λ x. (index, convert x)) (slice_get items index)

abbrev pub first_item : {X Y : Type 0} → (X → Y) → (X → Bool) → ℕ → List X → Option (ℕ × Y)
first_item convert test first items =
    found_item convert items (option_map (λ place. first + place) (position test (drop first items)))

-- a call has this refusal at each index
abbrev pub RefusesAll : {Y : Type 0} → (ℕ → Result (Option Y) RefusalAt) → RefusalAt → Type 0
RefusesAll call refusal = (index : ℕ) → call index ≡ Err refusal

-- a call stores each item of a list at its index, and none after them; or at each index it has the refusal of the list
abbrev pub ReturnsEach :
    {X Y : Type 0} → (X → Y) → Result (List X) RefusalAt → (ℕ → Result (Option Y) RefusalAt) → Type 0
ReturnsEach convert (Ok items) call = (index : ℕ) → call index ≡ Ok (option_map convert (slice_get items index))
ReturnsEach convert (Err refusal) call = RefusesAll call refusal

-- a call stores how many items a list has, or has the refusal of the list
abbrev pub ReturnsCount : {X : Type 0} → Result (List X) RefusalAt → Result (Option ℕ) RefusalAt → Type 0
ReturnsCount (Ok items) answer = answer ≡ Ok (Some (length items))
ReturnsCount (Err refusal) answer = answer ≡ Err refusal

-- the items from an index on, one at least, are those that a call stores there one by one, and it stores none after
-- them; or the call stores none there, or has the same refusal at each index
abbrev pub GivenFrom :
    {Y : Type 0} → ℕ → (ℕ → Result (Option Y) RefusalAt) → Result (Option (List Y)) RefusalAt → Type 0
GivenFrom first call (Ok (Some items)) = (0 < length items) × ((k : ℕ) → call (first + k) ≡ Ok (slice_get items k))
GivenFrom first call (Ok None) = (k : ℕ) → call (first + k) ≡ Ok None
GivenFrom first call (Err refusal) = RefusesAll call refusal

-- a result is the index of the first item from an index on that a call stores and that is so; or none is so from there
-- on; or it is one of these refusals
abbrev pub FindsFrom :
    {Y : Type 0}
    → ℕ → (ℕ → Result (Option Y) RefusalAt) → (Y → Type 0) → (RefusalAt → Type 0) → Result (Option ℕ) RefusalAt → Type 0
FindsFrom {Y} first call IsSo Refuses (Ok (Some index)) =
    (first ≤ index) × ((item : Y) × (call index ≡ Ok (Some item)) × IsSo item)
    × ((k : ℕ) (item : Y) → first ≤ k → k < index → call k ≡ Ok (Some item) → ¬ IsSo item)
FindsFrom {Y} first call IsSo Refuses (Ok None) = (k : ℕ) (item : Y) → first ≤ k → call k ≡ Ok (Some item) → ¬ IsSo item
FindsFrom first call IsSo Refuses (Err refusal) = Refuses refusal

-- a result is such an index with the item there
abbrev pub FindsItemFrom :
    {Y : Type 0} → ℕ → (ℕ → Result (Option Y) RefusalAt) → (Y → Type 0) → (RefusalAt → Type 0)
    → Result (Option (ℕ × Y)) RefusalAt → Type 0
FindsItemFrom first call IsSo Refuses (Ok (Some found)) =
    FindsFrom first call IsSo Refuses (Ok (Some found.0)) × (call found.0 ≡ Ok (Some found.1))
FindsItemFrom first call IsSo Refuses (Ok None) = FindsFrom first call IsSo Refuses (Ok None)
FindsItemFrom first call IsSo Refuses (Err refusal) = Refuses refusal
