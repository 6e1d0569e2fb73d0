-- What the definitions of this crate cite most, passed on from one place. Declares nothing.
pub use Rattle.goblin.specs.Header.{ctx_of, names_index_of}
unfoldable pub use Rattle.goblin.specs.ReadHeader.{read_header}
pub use Rattle.goblin.specs.Refusal.{Gives, Refusal, Refuses, Returns, out_of_memory, refusal_of}
pub use Rattle.goblin.specs.SectionHeaders.{linked, section_headers_of, section_headers_of_tested, size_checked_in}
pub use Rattle.goblin.specs.Steps.{refuse_as, ◌>>=◌}
pub use Rattle.goblin.specs.Strtab.{IsRange, StringTable, look_up, table_of}
unfoldable pub use Rattle.goblin.specs.Strtab.{strtab_of}
pub use Rattle.goblin.specs.Texts.{hexadecimal, refusal_text, ◌&◌}
pub use Rattle.goblin.specs.declared.elf.header.Header.{Header}
pub use Rattle.goblin.specs.declared.elf.reloc.Reloc.{Reloc}
pub use Rattle.goblin.specs.declared.elf.section_header.SectionHeader.{SectionHeader}
pub use Rattle.goblin.specs.declared.elf.sym.Sym.{Sym}
pub use Rattle.goblin.specs.declared.options.ParseMode.{ParseMode}
pub use Rattle.goblin.specs.declared.options.ParseMode.TheVariants.{Permissive, Strict}
pub use Rattle.goblin_base.specs.Derives.{Clones, ComparesAndClones}
pub use Rattle.goblin_base.specs.Entries.{CountsAtLeast, Reads}
pub use Rattle.goblin_text.specs.declared.block_runs.TheConstants.{BLOCK, BLOCKS}
pub use Rattle.std.specs.Io.{ReadsAtMost}
pub use Rattle.std.specs.Io.KnownBytes.{Appends, Consumes, IsAtEnd, Keeps, ReadConsumes, append_known}
pub use Rattle.std.specs.List.{before_first, concat, flat_map}
pub use Rattle.std.specs.Str.{IsUtf8, bytes_eq, is_utf8}
pub use Rattle.std.specs.declared.io.Error.{Error}
