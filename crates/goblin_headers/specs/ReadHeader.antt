-- Reading a header: the first refusal that applies, or else the header.
use Rattle.std.specs.Prelude.{ℕ, nat_lt, nat_eq, not, List, length, Result, Ok}
use Rattle.goblin_headers.specs.Common.{Endian, Error, Malformed, BadMagic, Scroll, Fault, Layout, number_at, ◌>>=◌}
use Rattle.goblin_headers.specs.Common.{with_size, Header, room_of, refuse_if, refuse_as, TooSmall, ElfClass, DataType}
use Rattle.std.specs.List.{starts_with}
use Rattle.goblin_headers.specs.Header.{header_size, header_layout, magic, class_of, order_of}
use Rattle.goblin_base.specs.declared.container.Endian.TheVariants as endian

-- the bytes are at least this many
abbrev pub needs : ℕ → List ℕ → Result (Unit {0}) Error
needs size bytes = refuse_as Scroll (room_of (length bytes) 0 size)

-- a header in the byte order that its data byte names; a wrong data byte is this fault
unfoldable pub read_in_order : {R : Type 0} → (Endian → Layout R) → (ℕ → Fault) → List ℕ → Result R Error
read_in_order layout fault bytes = do
  _ ← needs 16 bytes
  order ← order_of fault bytes
  _ ← needs (layout order).size bytes
  Ok ((layout order).read bytes)

-- a header of either class, and its size
unfoldable pub read_header : List ℕ → Result (Header × ℕ) Error
read_header bytes = do
  _ ← refuse_if (nat_lt (length bytes) 16) (Malformed TooSmall)
  _ ← refuse_if (not (starts_with nat_eq bytes magic)) (BadMagic (number_at endian.Little bytes 0 8))
  class ← class_of ElfClass bytes
  with_size (header_size class) (read_in_order (header_layout class) DataType bytes)
