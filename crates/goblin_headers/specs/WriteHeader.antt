-- Writing a header: the first refusal that applies, which changes nothing, or else the header's bytes at the start.
use Rattle.std.specs.Prelude.{◌≡◌, ℕ, List, Result, Ok, Err}
use Rattle.goblin_headers.specs.Common.{Endian, Error, Layout, Writes, Header, InvalidClass, Data}
use Rattle.goblin_headers.specs.Header.{header_layout, class_of, order_of}

-- a found value decides what is written; an error is the result, and nothing changes
abbrev pub WritesBy : {X : Type 0}
    → Result X Error → (X → List ℕ → Result ℕ Error → List ℕ → Type 0) → List ℕ → Result ℕ Error → List ℕ → Type 0
WritesBy (Ok x) writes old answer new = writes x old answer new
WritesBy (Err e) writes old answer new = (answer ≡ Err e) × (new ≡ old)

-- a header in the byte order that the data byte of an identification names
unfoldable pub WritesInOrder : {R : Type 0}
    → List ℕ → (Endian → Layout R) → R → List ℕ → Result ℕ Error → List ℕ → Type 0
WritesInOrder ident layout h =
    WritesBy (order_of Data ident) (λ order. Writes (layout order).size ((layout order).image h))

-- a header of either class, in the class and the byte order that its own bytes name
unfoldable pub WritesHeader : Header → List ℕ → Result ℕ Error → List ℕ → Type 0
WritesHeader h = WritesBy (class_of InvalidClass h.e_ident) (λ class. WritesInOrder h.e_ident (header_layout class) h)
