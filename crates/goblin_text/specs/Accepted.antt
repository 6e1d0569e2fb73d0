-- The text of a file whose parts are accepted.
use Rattle.std.specs.Prelude.{ℕ, List, vec_items}
use Rattle.goblin_text.specs.Common.{flat_map, Header, SectionHeader, ◌&◌}
use Rattle.goblin_text.specs.declared.accept.Accepted.{Accepted}
use Rattle.goblin_text.specs.declared.accept.Parts.{Parts}
use Rattle.goblin_text.specs.declared.accept.RelocPart.{RelocPart}
use Rattle.goblin_text.specs.declared.accept.SymbolPart.{SymbolPart}
use Rattle.goblin_text.specs.StringRanges.{strings_in}
use Rattle.goblin_text.specs.ShownLines.{header_line}
use Rattle.goblin_text.specs.Shown.{reloc_lines, section_lines, symbol_lines}

-- the lines of the symbols of some parts of a file with these bytes
abbrev pub symbols_text : List ℕ → List SymbolPart → List ℕ
symbols_text bytes parts = flat_map (λ p. symbol_lines (strings_in bytes p.strings) p.section 0 p.table.symbols) parts

-- the lines of the relocations of some parts
abbrev pub relocs_text : List RelocPart → List ℕ
relocs_text parts = flat_map (λ p. reloc_lines p.section 0 p.relocs) parts

-- the text of a file with these bytes, this header, these sections and these parts
abbrev pub parts_text : List ℕ → Header → List SectionHeader → Parts → List ℕ
parts_text bytes header sections parts =
    header_line header & section_lines (strings_in bytes parts.strings) 0 sections
    & symbols_text bytes (vec_items parts.symbols) & relocs_text (vec_items parts.relocs)

-- the text of a file with these bytes that is accepted
abbrev pub accepted_text : List ℕ → Accepted → List ℕ
accepted_text bytes a = parts_text bytes a.header (vec_items a.sections) a.parts
