-- Laws of fields that lie one after another.
use Rattle.std.proofs.Common.{inl, inr, refl, sym, ap, ◌∙◌, arith, ◌%◌, ◌≡◌, ◌<◌, ◌≤◌, ◌+◌, ◌^◌, ℕ, List, [], ◌∷◌, ◌++◌}
use Rattle.std.proofs.Common.{length, take, drop}
use Rattle.goblin_base.specs.Common.{cases_lt, mod-eq_of_lt, take-add, Endian, get_or_past, length-take, append_assoc}
use Rattle.goblin_base.specs.Common.{append-nil, drop-drop, drop_at, take_at, take-append-le, drop-append-le}
use Rattle.goblin_base.specs.Common.{length-append, length-take-le, length-drop, get_or-take, get_or-drop}
use Rattle.goblin_base.specs.Common.{take-append-drop}
use Rattle.goblin_base.specs.Number.{IsBytes, number, number_at, spelled}
use Rattle.goblin_base.specs.NumberLaws.{IsBytes-append, IsBytes-spelled, spelled-mod, number-spelled_low, number-lt}
use Rattle.goblin_base.specs.NumberLaws.{length-spelled, spelled-number}
use Rattle.goblin_base.specs.Fields.{Field, field, size_of_fields, FieldsFit, image_of_fields, values_at, fields_at}
use Rattle.goblin_base.specs.Fields.{total, widths_of, values_of, lows_of}
use Rattle.goblin_base.specs.Place.{with_number}

-- the bytes after each of the fields was written in turn
abbrev pub with_fields : Endian → List ℕ → ℕ → List Field → List ℕ
with_fields order bytes place [] = bytes
with_fields order bytes place (f ∷ fields) =
    with_fields order (with_number order bytes place f.width f.value) (place + f.width) fields

-- the image has the size of the fields
pub length-image_of_fields : (order : Endian) (fields : List Field)
    → length (image_of_fields order fields) ≡ size_of_fields fields
unfolding image_of_fields
length-image_of_fields order [] = refl
length-image_of_fields order (f ∷ fields) =
    let rest = length-image_of_fields order fields in
    omega (
      arith,
      rest,
      length-spelled order f.width f.value,
      length-append (spelled order f.width f.value) (image_of_fields order fields),
    )

-- each number of the image is a byte
pub IsBytes-image_of_fields : (order : Endian) (fields : List Field) → IsBytes (image_of_fields order fields)
unfolding image_of_fields
IsBytes-image_of_fields order [] i = omega arith
IsBytes-image_of_fields order (f ∷ fields) i =
    IsBytes-append (spelled order f.width f.value) (image_of_fields order fields)
    (IsBytes-spelled order f.width f.value)
    (IsBytes-image_of_fields order fields) i

-- the fields with their values cut to their widths
abbrev pub low_fields : List Field → List Field
low_fields [] = []
low_fields (f ∷ fields) = field f.width (f.value % 256 ^ f.width) ∷ low_fields fields

-- only the low bits are written
pub image-low_fields : (order : Endian) (fields : List Field)
    → image_of_fields order (low_fields fields) ≡ image_of_fields order fields
unfolding image_of_fields
image-low_fields order [] = refl
image-low_fields order (f ∷ fields) = rw (spelled-mod order f.width f.value, image-low_fields order fields) refl

-- bytes after those of a number don't change it
pub number_at-append : (order : Endian) (bytes more : List ℕ) (place w : ℕ)
    → place + w ≤ length bytes → number_at order (bytes ++ more) place w ≡ number_at order bytes place w
number_at-append order bytes more place w h =
    ap (λ (part : List ℕ). number order (take w part)) (drop-append-le place bytes more (omega arith))
    ∙ ap (number order) (take-append-le w (drop place bytes) more (omega (arith, length-drop place bytes)))

-- nor several numbers
pub values_at-append : (order : Endian) (bytes more : List ℕ) (place : ℕ) (widths : List ℕ)
    → place + total widths ≤ length bytes
    → values_at order (bytes ++ more) place widths ≡ values_at order bytes place widths
values_at-append order bytes more place [] h = refl
values_at-append order bytes more place (w ∷ widths) h =
    let first = number_at-append order bytes more place w (omega arith) in
    let rest = values_at-append order bytes more (place + w) widths (omega arith) in
    rw (first, rest) refl

-- cutting values that fit changes nothing
pub lows_of-fits : (fields : List Field) → FieldsFit fields → lows_of fields ≡ values_of fields
lows_of-fits [] fits = refl
lows_of-fits (f ∷ fields) fits = rw (mod-eq_of_lt fits.0, lows_of-fits fields fits.1) refl

-- the low bits of a number are read back from its bytes inside others
pub number_at-spelled : (order : Endian) (front rest : List ℕ) (place w x : ℕ)
    → length front ≡ place → number_at order (front ++ (spelled order w x ++ rest)) place w ≡ x % 256 ^ w
number_at-spelled order front rest place w x at =
    ap (λ (part : List ℕ). number order (take w part)) (drop_at front (spelled order w x ++ rest) place at)
    ∙ ap (number order) (take_at (spelled order w x) rest w (length-spelled order w x))
    ∙ number-spelled_low order w x

-- a number that was written is read back, cut to its width
pub number_at-with_number : (order : Endian) (bytes : List ℕ) (place w x : ℕ)
    → place + w ≤ length bytes → number_at order (with_number order bytes place w x) place w ≡ x % 256 ^ w
unfolding with_number
number_at-with_number order bytes place w x h =
    ap (λ (all : List ℕ). number_at order all place w)
    (append_assoc (take place bytes) (spelled order w x) (drop (place + w) bytes))
    ∙ number_at-spelled order (take place bytes) (drop (place + w) bytes) place w x
    (length-take-le place bytes (omega arith))

-- the low bits of fields are read back from their image inside other bytes
pub values_at-image : (order : Endian) (fields : List Field) (front rest : List ℕ) (place : ℕ)
    → length front ≡ place
    → values_at order (front ++ (image_of_fields order fields ++ rest)) place (widths_of fields) ≡ lows_of fields
unfolding image_of_fields
values_at-image order [] front rest place at = refl
values_at-image order (f ∷ fields) front rest place at =
    let text = spelled order f.width f.value in
    let tail = image_of_fields order fields ++ rest in
    let regrouped : front ++ ((text ++ image_of_fields order fields) ++ rest) ≡ (front ++ text) ++ tail =
    ap (λ (t : List ℕ). front ++ t) (append_assoc text (image_of_fields order fields) rest)
    ∙ sym (append_assoc front text tail) in
    let next : length (front ++ text) ≡ place + f.width =
    omega (arith, at, length-append front text, length-spelled order f.width f.value) in
    let first : number_at order ((front ++ text) ++ tail) place f.width ≡ f.value % 256 ^ f.width =
    ap (λ (t : List ℕ). number_at order t place f.width) (append_assoc front text tail)
    ∙ number_at-spelled order front tail place f.width f.value at in
    let others = values_at-image order fields (front ++ text) rest (place + f.width) next in
    ap (λ (t : List ℕ). values_at order t place (f.width ∷ widths_of fields)) regrouped
    ∙ rw (first, others) refl

-- the same without other bytes
pub values_at-image_low : (order : Endian) (fields : List Field)
    → values_at order (image_of_fields order fields) 0 (widths_of fields) ≡ lows_of fields
values_at-image_low order fields = rw append-nil at (values_at-image order fields [] [] 0 refl)

-- a part of bytes is bytes
pub IsBytes-part : (bytes : List ℕ) (place w : ℕ) → IsBytes bytes → IsBytes (take w (drop place bytes))
IsBytes-part bytes place w h i =
    elim (cases_lt i w) [
      | inl p ↦ rw (get_or-take w (drop place bytes) i 0, get_or-drop place bytes i 0) (h (place + i))
      | inr p ↦ let q : length (take w (drop place bytes)) ≤ i = omega (arith, length-take w (drop place bytes)) in
          rw (get_or_past (take w (drop place bytes)) i 0) (omega arith)
    ]

-- a number of w bytes is below 256 ^ w
pub number_at-lt : (order : Endian) (bytes : List ℕ) (place w : ℕ)
    → IsBytes bytes → place + w ≤ length bytes → number_at order bytes place w < 256 ^ w
number_at-lt order bytes place w h room =
    let part = take w (drop place bytes) in
    let long : length part ≡ w = length-take-le w (drop place bytes) (omega (arith, length-drop place bytes)) in
    rw long at (number-lt order part (IsBytes-part bytes place w h))

-- fields that were read are in range
pub FieldsFit-fields_at : (order : Endian) (bytes : List ℕ) (place : ℕ) (widths : List ℕ)
    → IsBytes bytes → place + total widths ≤ length bytes → FieldsFit (fields_at order bytes place widths)
FieldsFit-fields_at order bytes place [] h room = tt
FieldsFit-fields_at order bytes place (w ∷ widths) h room = (
  number_at-lt order bytes place w h (omega arith),
  FieldsFit-fields_at order bytes (place + w) widths h (omega arith),
)

-- the fields read from some bytes are written as the same bytes
pub image-fields_at : (order : Endian) (bytes : List ℕ) (place : ℕ) (widths : List ℕ)
    → IsBytes bytes → place + total widths ≤ length bytes
    → image_of_fields order (fields_at order bytes place widths) ≡ take (total widths) (drop place bytes)
unfolding image_of_fields
image-fields_at order bytes place [] h room = refl
image-fields_at order bytes place (w ∷ widths) h room =
    let part = take w (drop place bytes) in
    let long : length part ≡ w = length-take-le w (drop place bytes) (omega (arith, length-drop place bytes)) in
    let first : spelled order w (number order part) ≡ part =
    rw long at (spelled-number order part (IsBytes-part bytes place w h)) in
    let rest = image-fields_at order bytes (place + w) widths h (omega arith) in
    rw (first, rest, ← drop-drop w place bytes) (sym (take-add w (total widths) (drop place bytes)))

-- writing the fields one after another writes their image
pub with_fields-image : (order : Endian) (bytes : List ℕ) (place : ℕ) (fields : List Field)
    → place + size_of_fields fields ≤ length bytes
    → with_fields order bytes place fields
    ≡ take place bytes ++ (image_of_fields order fields ++ drop (place + size_of_fields fields) bytes)
unfolding image_of_fields with_number
with_fields-image order bytes place [] room = let e : place + 0 ≡ place = omega arith in
    rw e (sym (take-append-drop place bytes))
with_fields-image order bytes place (f ∷ fields) room =
    let text = spelled order f.width f.value in
    let new = with_number order bytes place f.width f.value in
    let after = place + f.width in
    let size = size_of_fields fields in
    let front : length (take place bytes ++ text) ≡ after =
    omega (
      arith,
      length-append (take place bytes) text,
      length-take-le place bytes (omega arith),
      length-spelled order f.width f.value,
    ) in
    let long : length new ≡ length bytes =
    omega (arith, front, length-append (take place bytes ++ text) (drop after bytes), length-drop after bytes) in
    let others = with_fields-image order new after fields (omega arith) in
    let kept : take after new ≡ take place bytes ++ text =
    take_at (take place bytes ++ text) (drop after bytes) after front in
    let rest_after : drop (after + size) new ≡ drop (place + (f.width + size)) bytes =
    sym (drop-drop size after new)
    ∙ ap (drop size) (drop_at (take place bytes ++ text) (drop after bytes) after front)
    ∙ drop-drop size after bytes
    ∙ ap (λ (k : ℕ). drop k bytes) (omega arith) in
    others ∙ rw (kept, rest_after)
    (append_assoc (take place bytes) text (image_of_fields order fields ++ drop (place + (f.width + size)) bytes)
    ∙ ap (λ (t : List ℕ). take place bytes ++ t)
    (sym (append_assoc text (image_of_fields order fields) (drop (place + (f.width + size)) bytes))))

-- fields that were written from the start of a buffer on are its beginning
pub puts_fields : (order : Endian) (fields : List Field) (old new : List ℕ)
    → size_of_fields fields ≤ length old → new ≡ with_fields order old 0 fields
    → new ≡ image_of_fields order fields ++ drop (size_of_fields fields) old
puts_fields order fields old new room is =
    let same : 0 + size_of_fields fields ≡ size_of_fields fields = omega arith in
    cc (with_fields-image order old 0 fields (omega arith), same)
