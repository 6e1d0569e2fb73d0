-- What the definitions of this crate cite most, passed on from one place. Declares nothing.
pub use Rattle.goblin.specs.declared.elf.note.Note.{Note}
pub use Rattle.goblin.specs.declared.elf.note.NotePlaces.{NotePlaces}
pub use Rattle.goblin_base.specs.Record.{unless_fault}
unfoldable pub use Rattle.goblin_base.specs.Record.{read_within, records}
pub use Rattle.goblin_base.specs.RecordLaws.{fits-room_of, room_of-few, room_of_fits, unless_fault-is}
pub use Rattle.goblin_base.specs.Refusal.{Refusal, bad_offset, malformed, misplaced, refusal_of}
unfoldable pub use Rattle.goblin_base.specs.Room.{room_of}
pub use Rattle.goblin_base.specs.Steps.{refuse_as, refuse_if, ◌>>=◌}
pub use Rattle.goblin_base.specs.TableLaws.{first_record, no_records, records-agree}
pub use Rattle.goblin_base.specs.declared.container.Ctx.{Ctx}
pub use Rattle.goblin_base.specs.declared.container.Endian.{Endian}
pub use Rattle.goblin_base.specs.declared.error.Error.{Error}
pub use Rattle.goblin_base.specs.declared.options.ParseMode.TheVariants.{Permissive, Strict}
pub use Rattle.goblin_records.specs.Nhdr.{nhdr32_of, nhdr32_size}
pub use Rattle.goblin_records.specs.Reloc.{reloc_image_in, reloc_in, reloc_size}
pub use Rattle.goblin_records.specs.Sym.{is_in_section, sym_of, sym_size}
pub use Rattle.goblin_records.specs.declared.note.Nhdr32.{Nhdr32}
pub use Rattle.goblin_records.specs.declared.reloc.Reloc.{Reloc}
pub use Rattle.goblin_records.specs.declared.sym.Sym.{Sym}
pub use Rattle.std.proofs.lemmas.Bool.{cases_lt, le-leb, lt-leb}
pub use Rattle.std.proofs.lemmas.Bool.Decides.{nat_tests}
pub use Rattle.std.specs.Int.{div_ceil, next_multiple_of}
pub use Rattle.std.specs.List.{list_any, position_or_len}
