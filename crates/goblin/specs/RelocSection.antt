-- Relocation sections: which are accepted, and which relocations they hold (System V gABI, "Relocation").
use Rattle.std.specs.Prelude.{◌≡◌, ◌*◌, ◌/◌, ◌==◌, ◌&&◌, if◌then◌else◌, ℕ, Bool, List, [], length, take, drop}
use Rattle.std.specs.Prelude.{slice_index, flat_map, Result, Ok}
use Rattle.goblin.specs.Common.{Ctx, Error, unless_fault, records, room_of, Reloc, reloc_size, reloc_in, reloc_image_in}
use Rattle.goblin_base.specs.Number.{IsBytes}
use Rattle.goblin_headers.specs.declared.header.Header.{Header}
use Rattle.goblin_headers.specs.Header.{class_byte, data_byte}

-- the relocations in `filesz` bytes from an offset on, which the file must hold unless `filesz` is 0; there are as many
-- as those bytes hold whole, and a remainder is not read
abbrev pub relocs_of : List ℕ → ℕ → ℕ → Bool → Ctx → Bool → Result (List Reloc) Error
relocs_of bytes offset filesz is_rela ctx is_mips64el =
    let size = reloc_size is_rela ctx.container in
    let read = reloc_in (record { is_rela = is_rela; ctx = ctx; is_mips64el = is_mips64el }) in
    if filesz == 0 then Ok []
    else unless_fault (room_of (length bytes) offset filesz)
    (records size read (filesz / size) (take filesz (drop offset bytes)))

-- whether files of this machine, class and byte order are little-endian MIPS64: the machine is 8, the class byte 2 and
-- the data byte 1
abbrev pub is_mips64el_in : ℕ → Ctx → Bool
is_mips64el_in machine ctx = (machine == 8) && (class_byte ctx.container == 2) && (data_byte ctx.le == 1)

-- whether a header is of a little-endian MIPS64 file
abbrev pub is_of_mips64el : Header → Bool
is_of_mips64el header =
    (header.e_machine == 8) && (slice_index header.e_ident 4 == 2) && (slice_index header.e_ident 5 == 1)

-- two files of the same length that agree on the bytes of a section have the same relocations there, or the same
-- refusal
abbrev pub DependsOnItsRange : Type 0
DependsOnItsRange =
    (bytes others : List ℕ) (offset filesz : ℕ) (is_rela : Bool) (ctx : Ctx) (is_mips64el : Bool)
    → length bytes ≡ length others → take filesz (drop offset bytes) ≡ take filesz (drop offset others)
    → relocs_of bytes offset filesz is_rela ctx is_mips64el ≡ relocs_of others offset filesz is_rela ctx is_mips64el

-- the relocations of a section, written one after another, are the bytes that they were read from
abbrev pub WritesItsBytes : Type 0
WritesItsBytes =
    (bytes : List ℕ) (offset filesz : ℕ) (is_rela : Bool) (ctx : Ctx) (is_mips64el : Bool) (relocs : List Reloc)
    → IsBytes bytes → relocs_of bytes offset filesz is_rela ctx is_mips64el ≡ Ok relocs
    → let size = reloc_size is_rela ctx.container in
    let image = reloc_image_in (record { is_rela = is_rela; ctx = ctx; is_mips64el = is_mips64el }) in
    flat_map image relocs ≡ take (filesz / size * size) (drop offset bytes)
