-- A buffer that is filled item by item.
--
-- A buffer that holds the first items of a list has room for the next one right after them (`laid-more`), so each step
-- of a loop adds one (`laid-step`). Once they are as many as the list or the buffer has, they are all that the buffer
-- can hold (`laid-enough`).
use Rattle.goblin.specs.Note.{whole_places}
use Rattle.goblin_base.specs.{Record.read_within, Texts.are_short, Texts.each_short, Texts.is_short}
use Rattle.goblin_base.specs.{declared.texts.Part.Part}
use Rattle.goblin_c.proofs.Common.{List, None, Ok, Option, RefusalAt, Result, Some, [], arith, drop, drop-drop, get_or}
use Rattle.goblin_c.proofs.Common.{get_or_from_slice_get, laid, length, length-drop, length-map, length-take}
use Rattle.goblin_c.proofs.Common.{length-take-le, map, nat_tests, refl, room_of, slice_get, slice_get-get_or}
use Rattle.goblin_c.proofs.Common.{slice_get-map, slice_get_within, suc, take, zero, ℕ, ◌++◌, ◌+◌, ◌-◌, ◌<◌, ◌∷◌, ◌≡◌}
use Rattle.goblin_c.proofs.Common.{◌≤◌}
use Rattle.goblin_c.specs.{Buffers.BufferIsFilled, Buffers.TextIsClosed, Common.GoblinRefusal, Results.FillsEach}
use Rattle.goblin_c.specs.{Results.KindsAreAboveOne, Results.StopsAt, TextLaws.PartsHaveSameText}
use Rattle.std.proofs.Common.{IsTrue, length-append, min, take_all}
use Rattle.std.proofs.lemmas.List.{drop-set-lt, get_or-drop, get_or-take, map-append, take_more, take_more_set}
use Rattle.std.proofs.{Math.ListN.set, lemmas.Bool.and_parts, lemmas.Bool.leb-true, lemmas.List.take_rest}
use Rattle.std.proofs.{lemmas.Option.slice_get_past, lemmas.Slice.take-put_mid}
use borrow.Rule.Slice.PartMut.{put_mid}

-- one item more
pub laid-more : {X : Type 0} (xs old : List X) (x : X)
    → length xs < length old → set (laid xs old) (length xs) x ≡ laid (xs ++ x ∷ []) old
laid-more (y ∷ ys) (o ∷ os) x h = grind (arith, laid-more ys os x)
laid-more xs old x h = grind arith

-- only as many items as the buffer holds count
pub laid-enough : {X : Type 0} (i : ℕ) (xs old : List X)
    → min (length xs) (length old) ≤ i → laid (take i xs) old ≡ laid xs old
laid-enough (suc i) (x ∷ xs) (o ∷ os) h = grind (arith, laid-enough i xs os)
laid-enough zero (x ∷ xs) (o ∷ os) h = absurd (omega arith)
laid-enough i xs old h = refl

-- the step of a loop that writes a list from its start on
pub laid-step : {X : Type 0} (i : ℕ) (xs old now : List X) (d : X)
    → now ≡ laid (take i xs) old → i < length xs → i < length old
    → set now i (get_or xs i d) ≡ laid (take (i + 1) xs) old
laid-step i xs old now d is within room =
    grind (arith, laid-more (take i xs) old (get_or xs i d), length-take-le i xs, take_more xs i d)

-- the step of a loop that writes the items from an index on
pub laid-item : {X : Type 0} (all : List X) (first i : ℕ) (old now : List X) (x : X)
    → slice_get all (first + i) ≡ Some x → now ≡ laid (take i (drop first all)) old → i < length old
    → set now i x ≡ laid (take (i + 1) (drop first all)) old
laid-item all first i old now x found is room =
    let inside = slice_get_within all (first + i) x found in
    let item = get_or_from_slice_get all (first + i) x x found in
    let step_is = laid-step i (drop first all) old now x in
    grind (arith, inside, get_or-drop first all i x, length-drop first all, item, step_is)

-- a list ends before an index at which it has no item
pub ends-before : {X : Type 0} (items : List X) (i : ℕ) → slice_get items i ≡ None → length items ≤ i
ends-before (x ∷ items) (suc i) none = omega (arith, ends-before items i none)
ends-before items i none = grind arith

-- where there is no item left, all of them were written
pub laid-ended : {X : Type 0} (all : List X) (first i : ℕ) (old now : List X)
    → slice_get all (first + i) ≡ None → now ≡ laid (take i (drop first all)) old → now ≡ laid (drop first all) old
laid-ended all first i old now none is = grind (arith, nat_tests, ends-before, laid-enough, length-drop)

pub laid-nowhere : {X : Type 0} (xs : List X) → laid xs [] ≡ []
laid-nowhere [] = refl
laid-nowhere (x ∷ xs) = refl

-- nothing is written past the buffer's end
pub laid-past : {X : Type 0} (n : ℕ) (xs old : List X) → length old ≤ n → take n old ++ laid xs (drop n old) ≡ old
laid-past (suc n) xs (o ∷ os) h = grind (arith, laid-past n xs os)
laid-past zero xs (o ∷ os) h = absurd (omega arith)
laid-past n xs old h = laid-nowhere xs

-- what is written into the buffer from an index on
pub laid-into : (n : ℕ) (part old new all : List ℕ)
    → n < length old → length all ≡ length old → length new ≡ length old - n
    → new ≡ laid part (take (length old - n) (drop n old)) → all ≡ put_mid n (length old - n) old new
    → all ≡ take n old ++ laid part (drop n old)
laid-into n part old new all inside long same is put =
    grind (arith, take-put_mid n (length old - n) old new (length old), take_all (length old) all, take_rest old n)

-- a buffer that was written into: its length, and what it holds before and after the end of what was written
laid-length : {X : Type 0} (items old : List X) → length (laid items old) ≡ length old
laid-length (x ∷ items) (o ∷ old) = grind (arith, laid-length items old)
laid-length items old = refl

laid-before : {X : Type 0} (items old : List X) (k : ℕ)
    → k < min (length items) (length old) → slice_get (laid items old) k ≡ slice_get items k
laid-before (x ∷ items) (o ∷ old) (suc k) h = laid-before items old k (omega arith)
laid-before items old k h = grind arith

laid-after : {X : Type 0} (items old : List X) (k : ℕ)
    → min (length items) (length old) ≤ k → slice_get (laid items old) k ≡ slice_get old k
laid-after (x ∷ items) (o ∷ old) (suc k) h = laid-after items old k (omega arith)
laid-after items old k h = grind arith

pub buffer_is_filled : BufferIsFilled
buffer_is_filled = grind (arith, nat_tests, laid-after, laid-before, laid-length)

-- a text and the zero byte after it
pub text_is_closed : TextIsClosed
text_is_closed (x ∷ text) (o ∷ old) h = grind (arith, text_is_closed text old)
text_is_closed text old h = grind arith

pub ruleset laid_steps = (laid-enough, laid-step, laid-into, laid-past)

-- ---- Texts that are written part by part, and those of refusals of whole notes.

short_at : (parts : List Part) (i : ℕ) (d : Part)
    → IsTrue (each_short parts) → i < length parts → IsTrue (is_short (get_or parts i d))
short_at (p ∷ parts) (suc i) d short h =
    grind (arith, and_parts (is_short p) (each_short parts) short, short_at parts i d)
short_at parts i d short h = grind (arith, and_parts)

-- there are few parts, and each of them is short
pub short_parts : (parts : List Part)
    → IsTrue (are_short parts)
    → (length parts ≤ 16) × ((i : ℕ) (d : Part) → i < length parts → IsTrue (is_short (get_or parts i d)))
short_parts parts short = grind (arith, nat_tests, and_parts, leb-true, short_at)

-- what is written right after what was written from an index on
pub laid-then : {X : Type 0} (n : ℕ) (xs ys old : List X) (k : ℕ)
    → k ≡ n + length xs
    → let now = take n old ++ laid xs (drop n old) in
    take k now ++ laid ys (drop k now) ≡ take n old ++ laid (xs ++ ys) (drop n old)
laid-then (suc n) xs ys (o ∷ old) (suc k) is = grind (arith, laid-then n xs ys old k)
laid-then zero (x ∷ xs) ys (o ∷ old) (suc k) is = grind (arith, laid-then zero xs ys old k)
laid-then n xs ys old k is = grind (arith, laid-nowhere, laid-past)

-- so after what was written from the start on
pub laid-part : (text part old : List ℕ)
    → take (length text) (laid text old) ++ laid part (drop (length text) (laid text old)) ≡ laid (text ++ part) old
laid-part text part old = laid-then 0 text part old (length text) (omega arith)

pub ruleset laid_parts = (laid-part, length-append)

pub kinds_are_above_one : KindsAreAboveOne
kinds_are_above_one refusal = grind (arith, nat_tests)

-- the text of a refusal has no item: for C the item of a whole note's refusal is the part
pub parts_have_same_text : PartsHaveSameText
unfolding whole_places read_within room_of
parts_have_same_text bytes h range alignment offset = grind (arith, nat_tests)

-- ---- A buffer that is filled with the items of expected results.
--
-- If a buffer begins with the items of the first results, it does so with one item more once that is set after them
-- (`each-step`), and its rest stays (`rest-step`). The loop goes on while results have items, so it stops at the first
-- that has none (`fills_before`), or after the last one (`fills_all`).

-- one item more
pub each-step : {X Y : Type 0} (wrap : X → Y) (results : List Y) (now : List X) (i : ℕ) (x : X)
    → map wrap (take i now) ≡ take i results → slice_get results i ≡ Some (wrap x) → i < length now
    → map wrap (take (i + 1) (set now i x)) ≡ take (i + 1) results
each-step wrap results now i x are found room =
    let inside = slice_get_within results i (wrap x) found in
    let item_is = get_or_from_slice_get results i (wrap x) (wrap x) found in
    let front = map-append wrap (take i now) (x ∷ []) in
    grind (arith, inside, item_is, front, take_more_set now i x room, take_more results i (wrap x))

-- and what follows it
pub rest-step : {X : Type 0} (old now : List X) (i : ℕ) (x : X)
    → drop i now ≡ drop i old → drop (i + 1) (set now i x) ≡ drop (i + 1) old
rest-step old now i x rest = grind (arith, drop-set-lt (i + 1) now i x, drop-drop 1 i now, drop-drop 1 i old)

-- the result at an index that both arrays have
pub result_at : {X Y : Type 0} (f : X → Y) (n : ℕ) (xs : List X) (i : ℕ) (x d : X)
    → x ≡ get_or xs i d → i < min (length xs) n → slice_get (map f (take n xs)) i ≡ Some (f x)
result_at f n xs i x d is inside =
    grind (arith, nat_tests, get_or-take, length-take, slice_get-get_or, slice_get-map)

module _ {X Y : Type 0} (f : Y → Result (Option X) RefusalAt) (n : ℕ) (xs : List Y) (old : List X) (was : GoblinRefusal)
    (status : ℕ) (new : List X) (filled : ℕ) (why : GoblinRefusal) where
  -- it stops at a result without an item
  pub fills_before : (d : Y) (next : Result (Option X) RefusalAt)
      → filled < min (length xs) n → f (get_or xs filled d) ≡ next
      → map (λ x. Ok (Some x)) (take filled new) ≡ take filled (map f (take n xs))
      → drop filled new ≡ drop filled old → StopsAt (Some next) was status why
      → FillsEach (map f (take n xs)) old was status new filled why
  fills_before d next inside is are rest ends =
      let result_is = result_at f n xs filled (get_or xs filled d) d refl inside in
      grind (arith, result_is, slice_get_within (map f (take n xs)) filled)

  -- it goes through all
  pub fills_all : filled ≡ min (length xs) n
      → map (λ x. Ok (Some x)) (take filled new) ≡ take filled (map f (take n xs))
      → drop filled new ≡ drop filled old → StopsAt {X = X} None was status why
      → FillsEach (map f (take n xs)) old was status new filled why
  fills_all all are rest ends = grind (arith, nat_tests, length-map, length-take, slice_get_past)
