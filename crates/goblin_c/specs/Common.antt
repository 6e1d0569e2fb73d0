-- What the definitions of this crate cite most, passed on from one place. Declares nothing.
pub use Rattle.goblin.specs.Header.{HeaderFits, class_of, header_layout, header_size, magic, order_named, order_of}
pub use Rattle.goblin.specs.Note.{NoteParts, PartRefusal}
pub use Rattle.goblin.specs.ProgramHeaders.{loaded_from, program_headers_from}
pub use Rattle.goblin.specs.RelocSection.{is_mips64el_in, is_of_mips64el, relocs_of}
pub use Rattle.goblin.specs.SectionHeaders.{is_nobits, is_table, linked, names_index, section_headers_of}
pub use Rattle.goblin.specs.Sym.{sym_layout, sym_size}
pub use Rattle.goblin.specs.Symtab.{symtab_of}
pub use Rattle.goblin.specs.WholePart.{sections_part, segment_count, segments_part}
pub use Rattle.goblin.specs.declared.elf.header.Header.{Header}
pub use Rattle.goblin.specs.declared.elf.program_header.ProgramHeader.{ProgramHeader}
pub use Rattle.goblin.specs.declared.elf.reloc.Reloc.{Reloc}
pub use Rattle.goblin.specs.declared.elf.section_header.SectionHeader.{SectionHeader}
pub use Rattle.goblin.specs.declared.elf.sym.Sym.{Sym}
pub use Rattle.goblin_base.specs.Layout.{Layout, word_size}
pub use Rattle.goblin_base.specs.Number.{IsBytes, number_at}
pub use Rattle.goblin_base.specs.Refusal.{Refusal, bad_input, buffer_too_short, malformed, misplaced, refusal_of}
pub use Rattle.goblin_base.specs.Steps.{refuse_as, with_size, ◌>>=◌}
pub use Rattle.goblin_base.specs.Strtab.{plain}
pub use Rattle.goblin_base.specs.Texts.{Facts, facts_text, kind_number, kind_with, refusal_facts, refusal_text}
pub use Rattle.goblin_base.specs.declared.container.Container.TheVariants.{Big, Little}
pub use Rattle.goblin_base.specs.declared.container.Ctx.{Ctx}
pub use Rattle.goblin_base.specs.declared.error.Error.{Error}
pub use Rattle.goblin_base.specs.declared.error.Fault.TheVariants.{Data, DataType, IntegerFit, InvalidClass}
pub use Rattle.goblin_base.specs.declared.error.Fault.TheVariants.{InvalidEndianness}
pub use Rattle.goblin_c.specs.declared.dynamic.GoblinDyn.{GoblinDyn}
pub use Rattle.goblin_c.specs.declared.file.GoblinHeader.{GoblinHeader}
pub use Rattle.goblin_c.specs.declared.misfit.Misfit.{Misfit}
pub use Rattle.goblin_c.specs.declared.notes.GoblinNote.{GoblinNote}
pub use Rattle.goblin_c.specs.declared.numbers.GoblinRange.{GoblinRange}
pub use Rattle.goblin_c.specs.declared.relocs.GoblinReloc.{GoblinReloc}
pub use Rattle.goblin_c.specs.declared.results.GoblinRefusal.{GoblinRefusal}
pub use Rattle.goblin_c.specs.declared.results.Refused.{Refused}
pub use Rattle.goblin_c.specs.declared.results.TheConstants.{END, INVALID_UTF8, OK, PROGRAM_HEADERS, SECTION_HEADERS}
pub use Rattle.goblin_c.specs.declared.sections.GoblinSection.{GoblinSection}
pub use Rattle.goblin_c.specs.declared.segments.GoblinSegment.{GoblinSegment}
pub use Rattle.goblin_c.specs.declared.symbols.GoblinSymbol.{GoblinSymbol}
pub use Rattle.goblin_dynamic.specs.declared.entry.Dyn.{Dyn}
pub use Rattle.std.specs.Option.{is_some, option_map}
pub use Rattle.std.specs.Str.{bytes_eq, is_utf8}
unfoldable pub use Rattle.goblin.specs.Note.{places_at, read_places, whole_places}
unfoldable pub use Rattle.goblin.specs.ReadHeader.{read_header, read_in_order}
unfoldable pub use Rattle.goblin.specs.SectionHeaders.{section_headers_from, section_headers_from_tested}
unfoldable pub use Rattle.goblin_base.specs.Room.{room_of}
unfoldable pub use Rattle.goblin_base.specs.Strtab.{has_name, range_in}
unfoldable pub use Rattle.goblin_base.specs.Wanted.{is_piece, starts_piece}
