-- What is shown of the bytes of a file.
use Rattle.std.specs.Prelude.{◌≡◌, ℕ, ◌+◌, ◌/◌, ◌==◌, ◌&&◌, ◌||◌, nat_lt, not, Bool, if◌then◌else◌, List, [], ◌∷◌}
use Rattle.std.specs.Prelude.{length, slice_get, Option, None, Some, Result, Ok, unwrap_or}
use Rattle.goblin_text.specs.Common.{Header, SectionHeader, Reloc, Sym, ParseMode, Strict, Permissive, read_header}
use Rattle.goblin_text.specs.Common.{Refusal, refusal_of, ◌>>=◌, refuse_as, StringTable, look_up, strtab_of, ◌&◌}
use Rattle.goblin_text.specs.Common.{names_index_of, ctx_of, linked, section_headers_of, section_headers_of_tested}
use Rattle.goblin_text.specs.Common.{size_checked_in}
use Rattle.goblin.specs.declared.container.Ctx.{Ctx}
use Rattle.goblin.specs.declared.error.Error.{Error}
use Rattle.goblin.specs.RelocSection.{is_of_mips64el, relocs_of}
use Rattle.goblin.specs.Sym.{sym_size}
use Rattle.goblin.specs.Symtab.{symtab_by}
pub use Rattle.goblin_base.specs.Lines.{Adds}
use Rattle.goblin_text.specs.ShownLines.{header_line, reloc_line, section_line, symbol_line}
use Rattle.goblin_text.specs.Options.{is_permissive}
use Rattle.goblin_text.specs.StringRanges.{text_table}

-- each section lies in a file of so many bytes, or else in strict mode the fault of the first that doesn't
abbrev pub sizes_checked : ParseMode → ℕ → List SectionHeader → Result (Unit {0}) Error
sizes_checked mode len [] = Ok tt
sizes_checked mode len (s ∷ sections) =
    size_checked_in (is_permissive mode) len s >>= λ _. sizes_checked mode len sections

-- the section headers of a file with this header, each of which is checked, or the first refusal
unfoldable pub sections_of : ParseMode → List ℕ → Header → Ctx → Result (List SectionHeader) Refusal
sections_of mode bytes h ctx = do
  sections ← section_headers_of bytes h.e_shoff h.e_shnum ctx
  _ ← refuse_as refusal_of (sizes_checked mode (length bytes) sections)
  Ok sections

-- the string table that a section is, or an empty one without a section
abbrev pub section_strings : ParseMode → List ℕ → Option SectionHeader → Result StringTable Refusal
section_strings mode bytes None = Ok (text_table [])
section_strings mode bytes (Some s) = strtab_of mode bytes s.sh_offset s.sh_size 0

-- the string table that others name by an index
unfoldable pub strings_at : ParseMode → List ℕ → List SectionHeader → ℕ → Result StringTable Refusal
strings_at mode bytes sections index = section_strings mode bytes (linked index (slice_get sections index))

-- the string at an offset of a table, or an empty one if there is none
abbrev pub name_at : StringTable → ℕ → List ℕ
name_at strings offset = unwrap_or (look_up strings offset) []

-- the lines of sections, the first of which has this number
abbrev pub section_lines : StringTable → ℕ → List SectionHeader → List ℕ
section_lines names number [] = []
section_lines names number (s ∷ sections) =
    section_line number s (name_at names s.sh_name) & section_lines names (number + 1) sections

-- the lines of symbols of the section with a number, the first of which has the second number
abbrev pub symbol_lines : StringTable → ℕ → ℕ → List Sym → List ℕ
symbol_lines names section number [] = []
symbol_lines names section number (s ∷ symbols) =
    symbol_line section number s (name_at names s.st_name) & symbol_lines names section (number + 1) symbols

-- a symbol table (2), or one for dynamic linking (11), that is not empty
abbrev pub has_symbols : SectionHeader → Bool
has_symbols s = (s.sh_type == 2 || s.sh_type == 11) && nat_lt 0 s.sh_size

-- the lines of the symbols of the section with a number: its symbols come first, then the strings that it links to
unfoldable pub symbols_shown : ParseMode
    → List ℕ → Ctx → List SectionHeader → ℕ → SectionHeader → Result (List ℕ) Refusal
symbols_shown mode bytes ctx sections number s =
    if not (has_symbols s) then Ok []
    else do
      table ← refuse_as refusal_of (symtab_by mode bytes s.sh_offset (s.sh_size / sym_size ctx.container) ctx)
      names ← strings_at mode bytes sections s.sh_link
      Ok (symbol_lines names number 0 table.symbols)

-- the lines of relocations of the section with a number, the first of which has the second number
abbrev pub reloc_lines : ℕ → ℕ → List Reloc → List ℕ
reloc_lines section number [] = []
reloc_lines section number (r ∷ relocs) = reloc_line section number r & reloc_lines section (number + 1) relocs

-- a section of relocations without addends (9), or with them (4), that is not empty
abbrev pub has_relocs : SectionHeader → Bool
has_relocs s = (s.sh_type == 9 || s.sh_type == 4) && nat_lt 0 s.sh_size

-- the lines of the relocations of the section with a number, through the pair of MIPS64 where that is asked for
unfoldable pub relocs_shown : List ℕ → Ctx → Bool → ℕ → SectionHeader → Result (List ℕ) Refusal
relocs_shown bytes ctx is_mips64el number s =
    if not (has_relocs s) then Ok []
    else do
      relocs ← refuse_as refusal_of (relocs_of bytes s.sh_offset s.sh_size (s.sh_type == 4) ctx is_mips64el)
      Ok (reloc_lines number 0 relocs)

-- what is shown of each section, the first of which has this number, one after another, or the first refusal
abbrev pub each_shown : (ℕ → SectionHeader → Result (List ℕ) Refusal) → ℕ → List SectionHeader → Result (List ℕ) Refusal
each_shown show number [] = Ok []
each_shown show number (s ∷ sections) = do
  lines ← show number s
  more ← each_shown show (number + 1) sections
  Ok (lines & more)

-- what is shown of a file whose section headers are read, or the first refusal: the line of its header, one for each
-- section, and after these one for each symbol and then one for each relocation
unfoldable pub file_shown : ParseMode → List ℕ → Header → Ctx → List SectionHeader → Result (List ℕ) Refusal
file_shown mode bytes h ctx sections = do
  names ← strings_at mode bytes sections (names_index_of h (slice_get sections 0))
  symbols ← each_shown (symbols_shown mode bytes ctx sections) 0 sections
  relocs ← each_shown (relocs_shown bytes ctx (is_of_mips64el h)) 0 sections
  Ok (header_line h & section_lines names 0 sections & symbols & relocs)

-- the text of a file, or the first refusal
unfoldable pub shown : ParseMode → List ℕ → Result (List ℕ) Refusal
shown mode bytes = do
  header ← refuse_as refusal_of (read_header bytes)
  ctx ← refuse_as refusal_of (ctx_of header.0)
  sections ← sections_of mode bytes header.0 ctx
  file_shown mode bytes header.0 ctx sections

-- the tests of a file that stand before memory is taken: those of its header, and the first ones of its section headers
unfoldable pub tested : List ℕ → Result (Unit {0}) Refusal
tested bytes = do
  header ← refuse_as refusal_of (read_header bytes)
  ctx ← refuse_as refusal_of (ctx_of header.0)
  section_headers_of_tested bytes header.0.e_shoff header.0.e_shnum ctx

-- where the text is shown strictly, the same is shown permissively
abbrev pub PermissiveShowsStrict : Type 0
PermissiveShowsStrict = (bytes text : List ℕ) → shown Strict bytes ≡ Ok text → shown Permissive bytes ≡ Ok text
