-- What the example reads of sections and symbols.
use Rattle.std.specs.Prelude.{ℕ, ◌==◌, Bool, List, Result}
use Rattle.goblin.specs.declared.container.Ctx.{Ctx}
use Rattle.goblin.specs.declared.elf.header.Header.{Header}
use Rattle.goblin.specs.declared.elf.reloc.Reloc.{Reloc}
use Rattle.goblin.specs.declared.elf.section_header.SectionHeader.{SectionHeader}
use Rattle.goblin.specs.declared.elf.sym.Sym.{Sym}
use Rattle.goblin.specs.declared.error.Error.{Error}
use Rattle.goblin.specs.RelocSection.{is_of_mips64el, relocs_of}
use Rattle.goblin.specs.SymParts.{type_of}

-- a symbol of a function: type 2
abbrev pub is_function : Sym → Bool
is_function s = type_of s.st_info == 2

-- the relocations of a section, with addends if its type is 4
abbrev pub relocations_of : List ℕ → SectionHeader → Header → Ctx → Result (List Reloc) Error
relocations_of bytes s h ctx = relocs_of bytes s.sh_offset s.sh_size (s.sh_type == 4) ctx (is_of_mips64el h)
