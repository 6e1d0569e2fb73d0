-- Headers are read back from the bytes that they were written as, and written back as the bytes that they were read
-- from.
use Rattle.std.specs.Prelude.{◌≡◌, ◌≢◌, ◌↔◌, ◌<◌, ◌≤◌, ℕ, List, [], ◌∷◌, ◌++◌, length, replicate, slice_index, take}
use Rattle.std.specs.Prelude.{Result, Ok, Err}
use Rattle.goblin_headers.specs.Common.{Container, Ctx, Endian, Error, Fault, Layout, IsBytes, Header, Little, Big}
use Rattle.goblin_headers.specs.Common.{BadMagic, Malformed, Scroll, DataType, ElfClass, TooSmall, number_at, with_size}
use Rattle.goblin_base.specs.Layout.{EachReadFits}
use Rattle.goblin_base.specs.declared.container.Endian.TheVariants as order
use Rattle.goblin_base.specs.declared.scroll.Error.TheVariants.{TooBig}
use Rattle.goblin_headers.specs.Header.{header_size, header_layout, HeaderFits, NamesOrder, Identifies, new_header}
use Rattle.goblin_headers.specs.Header.{class_byte, data_byte, header_values}
use Rattle.goblin_headers.specs.ReadHeader.{read_in_order, read_header}
use Rattle.goblin_headers.specs.WriteHeader.{WritesInOrder, WritesHeader}

-- the image of a header is the only list of bytes of its size that is read as its identification and the low bits of
-- its other fields
abbrev pub IsOneHeaderImage : {R : Type 0} → (R → List ℕ) → (Endian → Layout R) → Type 0
IsOneHeaderImage {R = R} ident layout =
    (order : Endian) (h : R) (bytes : List ℕ)
    → length (ident h) ≡ 16 → IsBytes (ident h)
    → let l = layout order in
    (bytes ≡ l.image h) ↔ (IsBytes bytes × (length bytes ≡ l.size) × (l.read bytes ≡ l.low h))

-- each header that was read fits; and one fits exactly if each field after its identification is its own low bits
abbrev pub HeadersFit : {R : Type 0} → (R → List ℕ) → (Endian → Layout R) → Type 0
HeadersFit {R = R} ident layout =
    (order : Endian)
    → EachReadFits (layout order)
    × ((h : R) → length (ident h) ≡ 16 → IsBytes (ident h) → (layout order).Fits h ↔ ((layout order).low h ≡ h))

-- a header that fits is read back from its image in the byte order that it names, whatever bytes follow
abbrev pub IsReadBack : {R : Type 0} → (R → List ℕ) → (Endian → Layout R) → Type 0
IsReadBack {R = R} ident layout =
    (fault : ℕ → Fault) (order : Endian) (h : R) (rest : List ℕ)
    → NamesOrder order (ident h) → (layout order).Fits h
    → read_in_order layout fault ((layout order).image h ++ rest) ≡ Ok h

-- it is written if the buffer holds it, and then read back
abbrev pub IsWrittenAndReadBack : {R : Type 0} → (R → List ℕ) → (Endian → Layout R) → Type 0
IsWrittenAndReadBack {R = R} ident layout =
    (fault : ℕ → Fault) (order : Endian) (h : R) (old new : List ℕ) (answer : Result ℕ Error)
    → NamesOrder order (ident h) → (layout order).Fits h → (layout order).size ≤ length old
    → WritesInOrder (ident h) layout h old answer new
    → (answer ≡ Ok (layout order).size) × (read_in_order layout fault new ≡ Ok h)

-- a header that was read is written over the bytes that it was read from, and they don't change
abbrev pub IsWrittenBack : {R : Type 0} → ℕ → (R → List ℕ) → (Endian → Layout R) → Type 0
IsWrittenBack {R = R} size ident layout =
    (fault : ℕ → Fault) (h : R) (bytes new : List ℕ) (answer : Result ℕ Error)
    → IsBytes bytes
    → read_in_order layout fault bytes ≡ Ok h
    → WritesInOrder (ident h) layout h bytes answer new
    → (answer ≡ Ok size) × (new ≡ bytes)

-- a header is written with its identification, whether it fits or not
abbrev pub IdentIsWritten : {R : Type 0} → (R → List ℕ) → (Endian → Layout R) → Type 0
IdentIsWritten {R = R} ident layout =
    (order : Endian) (h : R) → length (ident h) ≡ 16 → take 16 ((layout order).image h) ≡ ident h

-- the image of a header in a class is the only list of bytes that is read as it
abbrev pub OneImage : Type 0
OneImage = (class : Container) → IsOneHeaderImage (λ h. h.e_ident) (header_layout class)

-- the same of the headers of each class
abbrev pub EachFits : Type 0
EachFits =
    (class : Container)
    → HeadersFit (λ h. h.e_ident) (λ order. record (header_layout class order) { Fits = HeaderFits class })

-- a header that fits is read back from its image in the class and the byte order that it names, whatever bytes follow
abbrev pub ReadsBack : Type 0
ReadsBack =
    (class : Container) (order : Endian) (h : Header) (rest : List ℕ)
    → let l = header_layout class order in
    Identifies class order h.e_ident → HeaderFits class h
    → read_header (l.image h ++ rest) ≡ Ok (h, l.size)

-- it is written if the buffer holds it, and then read back
abbrev pub WrittenAndReadBack : Type 0
WrittenAndReadBack =
    (class : Container) (order : Endian) (h : Header) (old new : List ℕ) (answer : Result ℕ Error)
    → let l = header_layout class order in
    Identifies class order h.e_ident → HeaderFits class h → l.size ≤ length old
    → WritesHeader h old answer new
    → (answer ≡ Ok l.size) × (read_header new ≡ Ok (h, l.size))

-- a header that was read names a class and a byte order, and its image in these is the bytes that it was read from
abbrev pub ImageOfRead : Type 0
ImageOfRead =
    (h : Header) (bytes : List ℕ) (size : ℕ)
    → IsBytes bytes
    → read_header bytes ≡ Ok (h, size)
    → (class : Container) × (order : Endian) × Identifies class order h.e_ident × (size ≡ header_size class)
    × ((header_layout class order).image h ≡ take size bytes)

-- it is written over the bytes that it was read from, and they don't change
abbrev pub WritesBack : Type 0
WritesBack =
    (h : Header) (bytes new : List ℕ) (size : ℕ) (answer : Result ℕ Error)
    → IsBytes bytes
    → read_header bytes ≡ Ok (h, size)
    → WritesHeader h bytes answer new
    → (answer ≡ Ok size) × (new ≡ bytes)

-- a new header names the class and the byte order of its context, and fits the class
abbrev pub NewIsOfContext : Type 0
NewIsOfContext =
    (ctx : Ctx)
    → let new = new_header ctx in
    Identifies ctx.container ctx.le new.e_ident × HeaderFits ctx.container new

-- a new header is read back from its image
abbrev pub NewIsReadBack : Type 0
NewIsReadBack =
    (ctx : Ctx)
    → let l = header_layout ctx.container ctx.le in
    read_header (l.image (new_header ctx)) ≡ Ok (new_header ctx, l.size)

-- a new header in plain numbers
abbrev pub NewInNumbers : Type 0
NewInNumbers =
    (order : Endian)
    → let small = new_header (record { container = Little; le = order }) in
    let large = new_header (record { container = Big; le = order }) in
    (small.e_ident ≡ 0x7f ∷ 0x45 ∷ 0x4c ∷ 0x46 ∷ 1 ∷ data_byte order ∷ 1 ∷ replicate 9 0)
    × (large.e_ident ≡ 0x7f ∷ 0x45 ∷ 0x4c ∷ 0x46 ∷ 2 ∷ data_byte order ∷ 1 ∷ replicate 9 0)
    × (header_values small ≡ 3 ∷ 0 ∷ 1 ∷ 0 ∷ 0 ∷ 0 ∷ 0 ∷ 52 ∷ 32 ∷ 0 ∷ 40 ∷ 0 ∷ 0 ∷ [])
    × (header_values large ≡ 3 ∷ 0 ∷ 1 ∷ 0 ∷ 0 ∷ 0 ∷ 0 ∷ 64 ∷ 56 ∷ 0 ∷ 64 ∷ 0 ∷ 0 ∷ [])

-- which headers are refused, in plain numbers, and as what, before they are read as those of a class
pub record HeadersRefused (bytes : List ℕ) : Type 0 where
  pub short : length bytes < 16 → read_header bytes ≡ Err (Malformed TooSmall)
  pub no_magic : 16 ≤ length bytes → take 4 bytes ≢ 0x7f ∷ 0x45 ∷ 0x4c ∷ 0x46 ∷ []
      → read_header bytes ≡ Err (BadMagic (number_at order.Little bytes 0 8))
  pub no_class : 16 ≤ length bytes → take 4 bytes ≡ 0x7f ∷ 0x45 ∷ 0x4c ∷ 0x46 ∷ []
      → slice_index bytes 4 ≢ 1 → slice_index bytes 4 ≢ 2
      → read_header bytes ≡ Err (Malformed (ElfClass (slice_index bytes 4)))
  pub in_class : (class : Container)
      → 16 ≤ length bytes → take 4 bytes ≡ 0x7f ∷ 0x45 ∷ 0x4c ∷ 0x46 ∷ [] → slice_index bytes 4 ≡ class_byte class
      → read_header bytes ≡ with_size (header_size class) (read_in_order (header_layout class) DataType bytes)

-- the same of those of a class, which have a size; no bytes are refused at their end
pub record RawHeadersRefused {R : Type 0} (size : ℕ) (layout : Endian → Layout R) (fault : ℕ → Fault) (bytes : List ℕ)
    : Type 0 where
  pub short : 0 < length bytes → length bytes < 16
      → read_in_order layout fault bytes ≡ Err (Scroll (TooBig 16 (length bytes)))
  pub no_order : 16 ≤ length bytes → slice_index bytes 5 ≢ 1 → slice_index bytes 5 ≢ 2
      → read_in_order layout fault bytes ≡ Err (Malformed (fault (slice_index bytes 5)))
  pub cut : (order : Endian) → 16 ≤ length bytes → slice_index bytes 5 ≡ data_byte order → length bytes < size
      → read_in_order layout fault bytes ≡ Err (Scroll (TooBig size (length bytes)))
