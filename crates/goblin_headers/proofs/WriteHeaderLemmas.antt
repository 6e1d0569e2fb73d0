-- Lemmas for writing a header.
--
-- After the identification the fields are written one after another, which leaves the image and the rest of the buffer
-- (`with_header`). A header of either class is written as the raw one of its class: for the 32-bit class that has the
-- low bits alone, but these have the same image (`image-low32`).
use Rattle.goblin_headers.proofs.Common.{◌≡◌, ◌≤◌, ◌+◌, ℕ, List, ◌++◌, length, take, drop, Result, Ok, Err, refl, sym}
use Rattle.goblin_headers.proofs.Common.{ap, ◌∙◌, arith, slice_index, subst, Some, None, Endian, Error, Field}
use Rattle.goblin_headers.proofs.Common.{size_of_fields, image_of_fields, Layout, Writes, Header, as32, as64, class_of}
use Rattle.goblin_headers.proofs.Common.{headed, header32, header64, order_named, order_of, WritesBy, WritesInOrder}
use Rattle.goblin_headers.proofs.Common.{WritesHeader, Writes-ok, Writes-err, room_of, Data, InvalidClass, Malformed}
use Rattle.goblin_headers.proofs.Common.{Scroll}
use Rattle.std.proofs.lemmas.List.{append_assoc, take_at, drop_at, drop-drop, length-append, length-drop, set-get_or}
use Rattle.goblin_base.specs.FieldLaws.{with_fields, with_fields-image, image-low_fields}
use Rattle.goblin_headers.specs.Header.{low_header}
use Rattle.goblin_base.specs.declared.container.Container.TheVariants as class
use Rattle.goblin_headers.specs.declared.header32.Header.{Header as Raw32}
use Rattle.goblin_headers.specs.declared.header64.Header.{Header as Raw64}
use Rattle.goblin_base.specs.declared.scroll.Error.{Error as Misplaced}

-- ---- the result of writing a header in its byte order, case by case
module _ {R : Type 0} (ident : List ℕ) (layout : Endian → Layout R) (h : R) (old new : List ℕ) where
  -- without a byte order nothing changes
  pub no_order : None ≡ order_named (slice_index ident 5) → new ≡ old
      → WritesInOrder ident layout h old (Err (Malformed (Data (slice_index ident 5)))) new
  unfolding WritesInOrder
  no_order none kept = rw (← none) (refl, kept)

  -- in a buffer that is too small nothing changes
  pub no_room : (order : Endian) (size : ℕ) (e : Misplaced)
      → Some order ≡ order_named (slice_index ident 5) → size ≡ (layout order).size
      → Err e ≡ room_of (length old) 0 size → new ≡ old
      → WritesInOrder ident layout h old (Err (Scroll e)) new
  unfolding WritesInOrder
  no_room order size e some same none kept =
      rw (← some) (Writes-err (layout order).size size ((layout order).image h) old new e same none kept)

  -- else the image is written at the start, in the order that was found
  pub in_order : (order used : Endian) (size : ℕ) (u : Unit {0})
      → Some order ≡ order_named (slice_index ident 5) → size ≡ (layout order).size
      → Ok u ≡ room_of (length old) 0 size → new ≡ (layout used).image h ++ drop (layout used).size old → used ≡ order
      → WritesInOrder ident layout h old (Ok size) new
  unfolding WritesInOrder
  in_order order used size u some same room is found =
      let image = (layout order).image h in
      rw (← some) (Writes-ok (layout order).size size image old new u same room (rw found at is))

-- ---- what is written
-- the bytes after an identification and the fields that follow it were written
pub with_header : (order : Endian) (ident old new : List ℕ) (fields : List Field)
    → length ident ≡ 16 → new ≡ ident ++ drop 16 old → 16 + size_of_fields fields ≤ length old
    → with_fields order new 16 fields ≡ (ident ++ image_of_fields order fields) ++ drop (16 + size_of_fields fields) old
with_header order ident old new fields long is room =
    let size = size_of_fields fields in
    let image = image_of_fields order fields in
    let enough : 16 + size ≤ length new =
    rw is (omega (arith, length-append ident (drop 16 old), length-drop 16 old)) in
    let front : take 16 new ≡ ident = ap (take 16) is ∙ take_at ident (drop 16 old) 16 long in
    let after : drop 16 new ≡ drop 16 old = ap (drop 16) is ∙ drop_at ident (drop 16 old) 16 long in
    let rest : drop (16 + size) new ≡ drop (16 + size) old =
    sym (drop-drop size 16 new) ∙ ap (drop size) after ∙ drop-drop size 16 old in
    with_fields-image order new 16 fields enough
    ∙ rw (front, rest) (sym (append_assoc ident image (drop (16 + size) old)))

-- only the low bits are written
pub image-low32 : (order : Endian) (h : Raw32)
    → (headed header32 order).image (low_header header32 h) ≡ (headed header32 order).image h
image-low32 order h = ap (λ (rest : List ℕ). h.e_ident ++ rest) (image-low_fields order (header32.fields h))

-- a header of the 32-bit class is written as the raw one
pub written_32 : (h : Header) (raw : Raw32) (old new : List ℕ) (answer : Result ℕ Error)
    → Ok class.Little ≡ class_of InvalidClass h.e_ident → raw ≡ low_header header32 (as32 h)
    → WritesInOrder raw.e_ident (headed header32) raw old answer new
    → WritesHeader h old answer new
unfolding WritesHeader WritesInOrder
written_32 h raw old new answer known is so =
    let low = subst (λ (r : Raw32). WritesInOrder r.e_ident (headed header32) r old answer new) is so in
    let same : (λ (order : Endian). (headed header32 order).image (low_header header32 (as32 h)))
    ≡ (λ order. (headed header32 order).image (as32 h)) = λ i order. image-low32 order (as32 h) i in
    rw (← known)
    (subst
    (λ (image : Endian → List ℕ).
    WritesBy (order_of Data h.e_ident) (λ order. Writes 52 (image order)) old answer new) same low)

-- a header of the 64-bit class is written as the raw one
pub written_64 : (h : Header) (raw : Raw64) (old new : List ℕ) (answer : Result ℕ Error)
    → Ok class.Big ≡ class_of InvalidClass h.e_ident → raw ≡ as64 h
    → WritesInOrder raw.e_ident (headed header64) raw old answer new
    → WritesHeader h old answer new
unfolding WritesHeader WritesInOrder
written_64 h raw old new answer known is so =
    rw (← known) (subst (λ (r : Raw64). WritesInOrder r.e_ident (headed header64) r old answer new) is so)

-- without a class nothing changes
pub no_class : (h : Header) (old new : List ℕ) (e : Error)
    → Err e ≡ class_of InvalidClass h.e_ident → new ≡ old → WritesHeader h old (Err e) new
unfolding WritesHeader
no_class h old new e unknown kept = rw (← unknown) (refl, kept)

-- these cases, for the goals of the functions that write
pub ruleset header_answers = (no_order, no_room, in_order, no_class, set-get_or)

-- the order that was used is the one that was found, where the low bits alone are written
pub low_in_used_order : (raw h : Raw32) (new rest : List ℕ) (order used : Endian)
    → raw ≡ low_header header32 h → new ≡ (headed header32 used).image raw ++ rest → used ≡ order
    → new ≡ (headed header32 order).image h ++ rest
low_in_used_order raw h new rest order used is put same =
    put
    ∙ ap (λ (r : Raw32). (headed header32 used).image r ++ rest) is
    ∙ ap (λ (image : List ℕ). image ++ rest) (image-low32 used h)
    ∙ ap (λ (o : Endian). (headed header32 o).image h ++ rest) same
