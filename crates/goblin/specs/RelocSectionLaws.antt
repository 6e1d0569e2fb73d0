-- Laws of relocation sections: they depend only on their own bytes, and are written as those bytes.
use Rattle.std.proofs.Common.{◌≡◌, ◌≤◌, ◌+◌, ◌-◌, ◌*◌, ◌/◌, ◌==◌, ℕ, zero, suc, List, [], false, length, take, drop, Ok}
use Rattle.std.proofs.Common.{inl, inr, refl, sym, ap, ◌∙◌, arith}
use Rattle.std.specs.List.{flat_map}
use Rattle.std.proofs.Math.Nat.{div-mul-le_self}
use Rattle.std.proofs.Math.Seq.{take-add}
use Rattle.goblin.specs.Common.{cases_lt, nat_tests, unless_fault, records, unless_fault-is, fits-room_of, room_of}
use Rattle.goblin.specs.Common.{no_records, first_record, records-agree, Reloc, reloc_size, reloc_in, reloc_image_in}
use Rattle.std.proofs.lemmas.List.{get_or-drop, length-drop, length-take-le, take-append-drop, take-take}
use Rattle.goblin_base.specs.Layout.{IsRecord, Layout}
use Rattle.goblin_base.specs.Number.{IsBytes}
use Rattle.goblin_records.specs.declared.reloc.RelocCtx.{RelocCtx}
use Rattle.goblin_records.specs.RelocLaws.{reloc_laws_in}
use Rattle.goblin.specs.RelocSection.{DependsOnItsRange, WritesItsBytes}

pub depends_on_its_range : DependsOnItsRange
depends_on_its_range bytes others offset filesz is_rela ctx is_mips64el long same = rw (long, same) refl

-- the rest of a list of bytes is a list of bytes
IsBytes-drop : (k : ℕ) (bytes : List ℕ) → IsBytes bytes → IsBytes (drop k bytes)
IsBytes-drop k bytes are i = rw (get_or-drop k bytes i 0) (are (k + i))

-- records that were read one after another are written as the bytes that they were read from
flat_map-records : {R : Type 0} {l : Layout R}
    → IsRecord l → (n : ℕ) (bytes : List ℕ) → IsBytes bytes → n * l.size ≤ length bytes
    → flat_map l.image (records l.size l.read n bytes) ≡ take (n * l.size) bytes
flat_map-records {l = l} laws zero bytes are room =
    let none : zero * l.size ≡ 0 = omega arith in
    rw (no_records l.size l.read zero bytes refl, none) refl
flat_map-records {l = l} laws (suc n) bytes are room =
    let size = l.size in
    let read = l.read in
    let image = l.image in
    let less : suc n - 1 ≡ n = omega arith in
    let whole : suc n * size ≡ size + n * size = omega arith in
    let long : n * size ≤ length (drop size bytes) = omega (arith, length-drop size bytes) in
    let some : size ≤ length bytes = omega arith in
    let front : read (take size bytes) ≡ read bytes =
    sym (laws.reads_front (take size bytes) (drop size bytes) (omega (arith, length-take-le size bytes some)))
    ∙ ap read (take-append-drop size bytes) in
    let first : image (read (take size bytes)) ≡ take size bytes = ap image front ∙ laws.writes_back bytes are some in
    let rest = flat_map-records laws n (drop size bytes) (IsBytes-drop size bytes are) long in
    rw (first_record size read (suc n) bytes (omega arith), less, whole)
    (rw (first, rest) (sym (take-add size (n * size) bytes)))

-- the same of a section that is not empty
some_written :
    (bytes : List ℕ) (offset filesz : ℕ) (c : RelocCtx) (relocs : List Reloc) → IsBytes bytes
    → let size = reloc_size c.is_rela c.ctx.container in
    unless_fault (room_of (length bytes) offset filesz)
    (records size (reloc_in c) (filesz / size) (take filesz (drop offset bytes)))
    ≡ Ok relocs
    → flat_map (reloc_image_in c) relocs ≡ take (filesz / size * size) (drop offset bytes)
some_written bytes offset filesz c relocs are is =
    let size = reloc_size c.is_rela c.ctx.container in
    let n = filesz / size in
    let part = take filesz (drop offset bytes) in
    let found = unless_fault-is (room_of (length bytes) offset filesz) relocs (records size (reloc_in c) n part)
    (sym is) in
    let fits = fits-room_of (length bytes) offset filesz tt found.0 in
    let whole = div-mul-le_self filesz size in
    let same = records-agree size (reloc_in c) n part (drop offset bytes)
    (take-take (n * size) filesz (drop offset bytes) whole) in
    let long : n * size ≤ length (drop offset bytes) = omega (arith, length-drop offset bytes) in
    ap (flat_map (reloc_image_in c)) (found.1 ∙ same)
    ∙ flat_map-records (reloc_laws_in c) n (drop offset bytes) (IsBytes-drop offset bytes are) long

pub writes_its_bytes : WritesItsBytes
writes_its_bytes bytes offset filesz is_rela ctx is_mips64el relocs are is =
    let c : RelocCtx = record { is_rela = is_rela; ctx = ctx; is_mips64el = is_mips64el } in
    let size = reloc_size is_rela ctx.container in
    elim (cases_lt 0 filesz) [
      | inl p ↦ let some : (filesz == 0) ≡ false = grind (arith, nat_tests) in
          some_written bytes offset filesz c relocs are (rw some at is)
      | inr p ↦
          let none : filesz ≡ 0 = omega arith in
          let empty : relocs ≡ [] = let at_none = rw none at is in cc in
          let short : filesz / size * size ≡ 0 = omega (arith, div-mul-le_self filesz size) in
          rw (empty, short) refl
    ]
