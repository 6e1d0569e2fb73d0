-- Laws of notes and of the notes of a range.
use Rattle.std.proofs.Common.{◌≡◌, ◌+◌, ◌-◌, ◌<◌, ◌≤◌, ℕ, zero, suc, Bool, false, nat_le, List, [], length}
use Rattle.std.proofs.Common.{take, drop, Result, Ok, Err, IfOk, inl, inr, refl, sym, ap, subst, ◌∙◌, arith}
use Rattle.goblin.specs.Common.{cases_lt, le-leb, lt-leb, nat_tests, div_ceil, next_multiple_of, Ctx, Endian}
use Rattle.goblin.specs.Common.{read_within, unless_fault, fits-room_of, room_of_fits, Refusal, refusal_of}
use Rattle.goblin.specs.Common.{bad_offset}
use Rattle.goblin.specs.Common.{room_of, ◌>>=◌, refuse_as, refuse_if, Nhdr32, nhdr32_of, nhdr32_size, NotePlaces}
use Rattle.std.proofs.lemmas.List.{length-drop, length-take, take-append-drop}
use Rattle.goblin_base.specs.declared.scroll.Error.{Error as Misplaced}
use Rattle.goblin_records.specs.NhdrLaws.{nhdr32_laws}
use Rattle.goblin.specs.Note.{NoteParts, note_align, bytes_at, utf8_at, note_places, read_places, places_at, note_at}
use Rattle.goblin.specs.Note.{item_and_rest, items_within, note_items, whole_places, whole_note_places}
use Rattle.goblin.specs.Notes.{LieWithin, PlacesLieWithin, WholeIsNote, NoteByNote, NotesAdvance, FewNotes}

-- a property that holds after each value of the first step holds after both
if_ok_then : {A B E : Type 0} (first : Result A E) (next : A → Result B E) (P : B → Type 0)
    → ((x : A) → first ≡ Ok x → IfOk (next x) P) → IfOk (first >>= next) P
if_ok_then first next P h = grind (arith, nat_tests)

-- a property that follows from one that holds
if_ok_more : {A E : Type 0} (answer : Result A E) (P Q : A → Type 0)
    → IfOk answer P → ((x : A) → P x → Q x) → IfOk answer Q
if_ok_more answer P Q h more = grind (arith, nat_tests)

-- an alignment is at least 4 and at most 8
align_range : (alignment align : ℕ) → note_align alignment ≡ Ok align → (4 ≤ align) × (align ≤ 8)
align_range alignment align is = grind (arith, nat_tests)

-- bytes that are read are inside the bytes
bytes_at-fits : (bytes : List ℕ) (place size : ℕ) (part : List ℕ)
    → bytes_at bytes place size ≡ Ok part → place + size ≤ length bytes
bytes_at-fits bytes place size part is = grind (arith, fits-room_of (length bytes) place size)

-- the least multiple from an offset on is less than the alignment past it
multiple_range : (place align : ℕ)
    → 4 ≤ align → (place ≤ next_multiple_of place align) × (next_multiple_of place align < place + align)
multiple_range place align h = (omega arith, omega arith)

-- and so is text that is read
utf8_at-fits : (bytes : List ℕ) (place size : ℕ) (text : List ℕ)
    → utf8_at bytes place size ≡ Ok text → place + size ≤ length bytes
utf8_at-fits bytes place size text is = grind (arith, fits-room_of (length bytes) place size)

-- places of parts that lie inside the bytes
places_fit : (available align : ℕ) (header : Nhdr32)
    → (4 ≤ align) × (align ≤ 8)
    → (let p = note_places align header in
    (p.name + p.name_size ≤ available) → (p.desc + p.desc_size ≤ available) → LieWithin available 0 p)
places_fit available align header range name desc =
    record { name = omega (arith, name); desc = omega (arith, desc); least = omega arith; most = omega (arith, desc) }

-- the places that are read lie inside the bytes
read_places-fits : (alignment : ℕ) (order : Endian) (bytes : List ℕ)
    → IfOk (read_places alignment order bytes) (LieWithin (length bytes) 0)
unfolding read_places
read_places-fits alignment order bytes =
    if_ok_then (note_align alignment) _ _ λ align aligned.
    if_ok_then (refuse_as refusal_of (read_within nhdr32_size (nhdr32_of order) bytes)) _ _ λ h begins.
    let p = note_places align h in
    if_ok_then (utf8_at bytes p.name p.name_size) _ _ λ name named.
    if_ok_then (bytes_at bytes p.desc p.desc_size) _ _ λ desc described.
    places_fit (length bytes) align h (align_range alignment align aligned)
    (utf8_at-fits bytes p.name p.name_size name named) (bytes_at-fits bytes p.desc p.desc_size desc described)

-- what was read of a note
read_last : (text desc : Result (List ℕ) Refusal) (p places : NotePlaces)
    → (text >>= λ _. desc >>= λ _. Ok p) ≡ Ok places → (places ≡ p) × ((part : List ℕ) × (desc ≡ Ok part))
read_last text desc p places is = grind (arith, nat_tests)

read_steps : (align : Result ℕ Refusal) (room : Result (Unit {0}) Misplaced) (header : Nhdr32) (bytes : List ℕ)
    (places : NotePlaces)
    → (align >>= λ a. refuse_as refusal_of (unless_fault room header) >>= λ h. Ok (note_places a h) >>= λ p.
    utf8_at bytes p.name p.name_size >>= λ _. bytes_at bytes p.desc p.desc_size >>= λ _. Ok p) ≡ Ok places
    → (a : ℕ) × (align ≡ Ok a) × (places ≡ note_places a header)
    × ((part : List ℕ) × (bytes_at bytes places.desc places.desc_size ≡ Ok part))
read_steps (Ok a) (Ok u) header bytes places is =
    let p = note_places a header in
    let last = read_last (utf8_at bytes p.name p.name_size) (bytes_at bytes p.desc p.desc_size) p places is in
    (a, refl, last.0, rw last.0 last.1)
read_steps (Ok a) (Err e) header bytes places is = absurd (cc)
read_steps (Err e) room header bytes places is = absurd (cc)

-- the header of some bytes is that of the first of them
header_first : (order : Endian) (bytes : List ℕ) (size : ℕ)
    → nhdr32_size ≤ length (take size bytes) → nhdr32_of order (take size bytes) ≡ nhdr32_of order bytes
header_first order bytes size room =
    sym ((nhdr32_laws order).reads_front (take size bytes) (drop size bytes) room)
    ∙ ap (nhdr32_of order) (take-append-drop size bytes)

-- the whole note of some bytes that hold its parts
whole_there : (alignment align : ℕ) (order : Endian) (bytes : List ℕ)
    → note_align alignment ≡ Ok align → nhdr32_size ≤ length bytes
    → (let p = whole_note_places align (nhdr32_of order bytes) in
    (p.name + p.name_size ≤ length bytes) → (p.desc + p.desc_size ≤ length bytes)
    → whole_places alignment order bytes ≡ Ok p)
unfolding whole_places read_within
whole_there alignment align order bytes aligned begins name desc =
    let p = whole_note_places align (nhdr32_of order bytes) in
    rw (
      aligned,
      room_of_fits (length bytes) 0 nhdr32_size begins,
      room_of_fits (length bytes) p.name p.name_size name,
      room_of_fits (length bytes) p.desc p.desc_size desc,
    ) refl

pub whole_is_note : WholeIsNote
unfolding read_places read_within
whole_is_note alignment order bytes size places is room =
    let header = nhdr32_of order bytes in
    let steps =
    read_steps (note_align alignment) (room_of (length bytes) 0 nhdr32_size) header bytes places is in
    let p = whole_note_places steps.0 header in
    let range = align_range alignment steps.0 steps.1 in
    let fits = bytes_at-fits bytes places.desc places.desc_size steps.3.0 steps.3.1 in
    let same : places ≡ note_places steps.0 header = steps.2 in
    let end : p.desc + p.desc_size ≡ places.desc + places.desc_size =
    sym (ap (λ (q : NotePlaces). q.desc + q.desc_size) same) in
    let long = length-take size bytes in
    let first = multiple_range (nhdr32_size + header.n_namesz) steps.0 range.0 in
    let desc : p.desc + p.desc_size ≤ length (take size bytes) = omega (arith, end, fits, room, long) in
    let begins : nhdr32_size ≤ length (take size bytes) = omega (arith, desc, first.0) in
    let named : p.name + p.name_size ≤ length (take size bytes) = omega (arith, desc, first.0) in
    let of_first = header_first order bytes size begins in
    let whole = subst (λ (h : Nhdr32). let q = whole_note_places steps.0 h in
    (q.name + q.name_size ≤ length (take size bytes)) → (q.desc + q.desc_size ≤ length (take size bytes))
    → whole_places alignment order (take size bytes) ≡ Ok q) of_first
    (whole_there alignment steps.0 order (take size bytes) steps.1 begins) named desc in (
      ap (λ (q : NotePlaces). q.name_size) same,
      whole ∙ ap (λ (q : NotePlaces). Ok (record q { name_size = header.n_namesz })) (sym same),
    )

-- a property of each value holds of this one
pub at_ok : {A E : Type 0} (answer : Result A E) (x : A) (P : A → Type 0) → answer ≡ Ok x → IfOk answer P → P x
at_ok answer x P is h = rw is at h

-- a property that holds if a test passes holds after the test
after_test : (test : Bool) (refusal : Refusal) (answer : Result NotePlaces Refusal) (P : NotePlaces → Type 0)
    → (test ≡ false → IfOk answer P) → IfOk (refuse_if test refusal >>= λ _. answer) P
after_test test refusal answer P h = grind (arith, nat_tests)

-- the places of a note lie within the bytes that it is read from
pub places_lie_within : PlacesLieWithin
unfolding places_at
places_lie_within bytes offset ctx =
    after_test (nat_le (length bytes) offset) (bad_offset offset) (read_places ctx.0 ctx.1.le (drop offset bytes)) _
    λ before.
    if_ok_more (read_places ctx.0 ctx.1.le (drop offset bytes)) _ _
    (read_places-fits ctx.0 ctx.1.le (drop offset bytes))
    λ p within.
    let rest = length-drop offset bytes in
    grind (arith, within)

-- the size of a note is at least its header's, and at most 7 more than the bytes'
pub notes_advance : NotesAdvance
unfolding note_at
notes_advance bytes offset ctx =
    if_ok_then (places_at bytes offset ctx) _ _ λ p is.
    let within = at_ok (places_at bytes offset ctx) p _ is (places_lie_within bytes offset ctx) in
    (within.least, within.most)

-- nothing is left from the end of a range on
items_past : (k : ℕ) (bytes : List ℕ) (size offset : ℕ) (ctx : ℕ × Ctx)
    → size ≤ offset → items_within k bytes size offset ctx ≡ []
items_past k bytes size offset ctx past = grind (arith, nat_tests, le-leb)

-- the items from an offset on are the same if the items after each note are
same_items : (answer : Result (NoteParts × ℕ) Refusal) (f g : ℕ → List (Result NoteParts Refusal))
    → ((note : NoteParts × ℕ) → answer ≡ Ok note → f note.1 ≡ g note.1)
    → item_and_rest answer f ≡ item_and_rest answer g
same_items answer f g h = grind (arith, nat_tests)

-- the number of bytes that may be read makes no difference if it is large enough
items_enough : (k j : ℕ) (bytes : List ℕ) (size offset : ℕ) (ctx : ℕ × Ctx)
    → size - offset ≤ k → size - offset ≤ j
    → items_within k bytes size offset ctx ≡ items_within j bytes size offset ctx
items_enough zero j bytes size offset ctx h i = sym (items_past j bytes size offset ctx (omega arith))
items_enough (suc k) zero bytes size offset ctx h i = items_past (suc k) bytes size offset ctx (omega arith)
items_enough (suc k) (suc j) bytes size offset ctx h i =
    elim (cases_lt offset size) [
      | inr past ↦ items_past (suc k) bytes size offset ctx past ∙ sym (items_past (suc j) bytes size offset ctx past)
      | inl before ↦ rw (lt-leb size offset before) (same_items (note_at bytes offset ctx) _ _ λ note is.
          let moved = at_ok (note_at bytes offset ctx) note _ is (notes_advance bytes offset ctx) in
          items_enough k j bytes size (offset + note.1) ctx (omega arith) (omega arith))
    ]

-- the items of a range, note by note
pub note_by_note : NoteByNote
unfolding note_items
note_by_note bytes size offset ctx =
    elim (cases_lt offset size) [
      | inr past ↦ items_past (size - offset) bytes size offset ctx past ∙ rw (le-leb size offset past) refl
      | inl before ↦
          items_enough (size - offset) (suc (size - offset)) bytes size offset ctx (omega arith) (omega arith)
          ∙ rw (lt-leb size offset before) (same_items (note_at bytes offset ctx) _ _ λ note is.
          items_enough (size - offset) (size - (offset + note.1)) bytes size (offset + note.1) ctx (omega arith)
          (omega arith))
    ]

-- an item and the items after it are few, if those after each note are
few_items : (answer : Result (NoteParts × ℕ) Refusal) (rest : ℕ → List (Result NoteParts Refusal)) (most : ℕ)
    → 0 < most → ((note : NoteParts × ℕ) → answer ≡ Ok note → length (rest note.1) < most)
    → length (item_and_rest answer rest) ≤ most
few_items answer rest most some h = grind (arith, nat_tests)

few_within : (k : ℕ) (bytes : List ℕ) (size offset : ℕ) (ctx : ℕ × Ctx)
    → length (items_within k bytes size offset ctx) ≤ div_ceil (size - offset) nhdr32_size
few_within zero bytes size offset ctx = omega arith
few_within (suc k) bytes size offset ctx =
    elim (cases_lt offset size) [
      | inr past ↦ rw (items_past (suc k) bytes size offset ctx past) (omega arith)
      | inl before ↦ rw (lt-leb size offset before)
          (few_items (note_at bytes offset ctx) _ (div_ceil (size - offset) nhdr32_size) (omega arith) λ note is.
          let moved = at_ok (note_at bytes offset ctx) note _ is (notes_advance bytes offset ctx) in
          let few = few_within k bytes size (offset + note.1) ctx in
          omega arith)
    ]

-- a range has at most as many items as headers fit into it
pub few_notes : FewNotes
unfolding note_items
few_notes bytes size offset ctx = few_within (size - offset) bytes size offset ctx

pub ruleset note_laws = (note_by_note, places_lie_within, notes_advance, few_notes)
