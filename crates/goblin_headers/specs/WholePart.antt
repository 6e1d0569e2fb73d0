-- The number of segments, and the headers that count only what lies whole in the file (System V gABI, "ELF Header":
-- `e_phnum`, `e_shnum` and extended numbering).
use Rattle.std.specs.Prelude.{◌≡◌, ◌==◌, ◌||◌, ℕ, if◌then◌else◌, not, min, IsOk, List, length, drop, Result, Ok, Err}
use Rattle.goblin_headers.specs.Common.{Ctx, Error, whole_of, unless_fault, Refusal, refusal_of, room_of, refuse_as}
use Rattle.goblin_headers.specs.Common.{Header, ProgramHeader, SectionHeader, ◌>>=◌}
use Rattle.goblin_headers.specs.declared.whole_part.WholePart.{WholePart}
use Rattle.goblin_headers.specs.Header.{ctx_of}
use Rattle.goblin_headers.specs.ProgramHeader.{program_header_size}
use Rattle.goblin_headers.specs.ProgramHeaders.{program_headers_from}
use Rattle.goblin_headers.specs.SectionHeader.{section_header_size, section_header_of}
use Rattle.goblin_headers.specs.SectionHeaders.{count_from, section_headers_of}

-- the header of section 0, which must lie in the file
abbrev pub section_0 : List ℕ → ℕ → Ctx → Result SectionHeader Error
section_0 bytes sections ctx =
    unless_fault (room_of (length bytes) sections (section_header_size ctx.container))
    (section_header_of ctx.container ctx.le (drop sections bytes))

-- the number of segments, by `e_phnum` and `e_shoff`: `e_phnum` itself, or if that is 0xffff (PN_XNUM) and there is a
-- section 0, its `sh_info`
abbrev pub segment_count : List ℕ → ℕ → ℕ → Ctx → Result ℕ Error
segment_count bytes number sections ctx =
    if not (number == 0xffff) || sections == 0 then Ok number
    else do
      first ← section_0 bytes sections ctx
      Ok first.sh_info

-- how many of so many headers lie in the file whole
abbrev pub whole_sections : List ℕ → ℕ → Ctx → ℕ → ℕ
whole_sections bytes offset ctx count = whole_of (length bytes) offset (section_header_size ctx.container) count

abbrev pub whole_segments : List ℕ → ℕ → Ctx → ℕ → ℕ
whole_segments bytes offset ctx count = whole_of (length bytes) offset (program_header_size ctx.container) count

-- `e_shoff` and `e_shnum` if so many headers are stated: no headers if the first doesn't lie in the file; the same
-- fields if all do; else as many as do, and at most what the field holds
abbrev pub cut_sections : ℕ → ℕ → (ℕ → ℕ) → Result ℕ Error → WholePart
cut_sections offset count whole (Ok stated) = record {
  offset = offset;
  count = if whole stated == stated then count else min (whole stated) 0xffff;
}
cut_sections offset count whole (Err e) = record { offset = 0; count = 0 }

-- `e_shoff` and `e_shnum` of the whole part
abbrev pub sections_part : List ℕ → ℕ → ℕ → Ctx → WholePart
sections_part bytes offset count ctx =
    if offset == 0 then record { offset = 0; count = count }
    else cut_sections offset count (whole_sections bytes offset ctx) (count_from bytes offset count ctx)

-- `e_phnum` if so many headers are stated: the same if all lie in the file; else as many as do, and below the escape
-- 0xffff. If their number can't be read, 0xffff are taken as stated, and are not the same.
abbrev pub cut_segments : ℕ → (ℕ → ℕ) → Result ℕ Error → ℕ
cut_segments number whole (Ok stated) = if whole stated == stated then number else min (whole stated) 0xfffe
cut_segments number whole (Err e) = min (whole 0xffff) 0xfffe

-- `e_phnum` of the whole part
abbrev pub segments_part : List ℕ → ℕ → ℕ → ℕ → Ctx → ℕ
segments_part bytes number offset sections ctx =
    cut_segments number (whole_segments bytes offset ctx) (segment_count bytes number sections ctx)

-- the header that counts only what lies whole in the file; its other fields are the same
abbrev pub whole_header : List ℕ → Header → Ctx → Header
whole_header bytes h ctx =
    let part = sections_part bytes h.e_shoff h.e_shnum ctx in
    record h {
      e_shoff = part.offset;
      e_shnum = part.count;
      e_phnum = segments_part bytes h.e_phnum h.e_phoff h.e_shoff ctx;
    }

-- the number of segments and the whole part by the class and the byte order that the header names
abbrev pub segment_count_of : List ℕ → Header → Result ℕ Error
segment_count_of bytes h = do
  ctx ← ctx_of h
  segment_count bytes h.e_phnum h.e_shoff ctx

abbrev pub whole_header_of : List ℕ → Header → Result Header Error
whole_header_of bytes h = do
  ctx ← ctx_of h
  Ok (whole_header bytes h ctx)

-- the program headers of a file, as many as `segment_count` says
abbrev pub program_headers_of : List ℕ → ℕ → ℕ → ℕ → Ctx → Result (List ProgramHeader) Refusal
program_headers_of bytes number offset sections ctx = do
  count ← refuse_as refusal_of (segment_count bytes number sections ctx)
  program_headers_from bytes offset count ctx

-- the list of a whole part is not refused, and is the same list where that one isn't refused
abbrev pub IsListOfWhole : {X : Type 0} → Result (List X) Refusal → Result (List X) Refusal → Type 0
IsListOfWhole list part = IsOk part × (IsOk list → part ≡ list)

-- so are the section headers and the program headers of the whole part, by its numbers
abbrev pub SectionsOfWhole : Type 0
SectionsOfWhole =
    (bytes : List ℕ) (offset count : ℕ) (ctx : Ctx)
    → let part = sections_part bytes offset count ctx in
    IsListOfWhole (section_headers_of bytes offset count ctx) (section_headers_of bytes part.offset part.count ctx)

abbrev pub SegmentsOfWhole : Type 0
SegmentsOfWhole =
    (bytes : List ℕ) (number offset sections count : ℕ) (ctx : Ctx)
    → let part = sections_part bytes sections count ctx in
    let whole = segments_part bytes number offset sections ctx in
    IsListOfWhole (program_headers_of bytes number offset sections ctx)
    (program_headers_of bytes whole offset part.offset ctx)

-- and by a header, in the class and the byte order that both name
pub record ListsOfWhole (bytes : List ℕ) (h : Header) (ctx : Ctx) : Type 0 where
  pub named : ctx_of (whole_header bytes h ctx) ≡ ctx_of h
  pub sections :
      let whole = whole_header bytes h ctx in
      IsListOfWhole (section_headers_of bytes h.e_shoff h.e_shnum ctx)
      (section_headers_of bytes whole.e_shoff whole.e_shnum ctx)
  pub segments :
      let whole = whole_header bytes h ctx in
      IsListOfWhole (program_headers_of bytes h.e_phnum h.e_phoff h.e_shoff ctx)
      (program_headers_of bytes whole.e_phnum whole.e_phoff whole.e_shoff ctx)

abbrev pub WholeIsListed : Type 0
WholeIsListed = (bytes : List ℕ) (h : Header) (ctx : Ctx) → ListsOfWhole bytes h ctx
