-- One of each struct that calls share with C, with marks by which C can check the place of each field.
use Rattle.goblin.specs.{Header.header_of_values, ProgramHeader.program_header_of_values}
use Rattle.goblin.specs.{SectionHeader.section_header_of_values, Sym.sym_of_values}
use Rattle.goblin_c.specs.{Common.GoblinRange, Dynamic.dyn_converted, File.header_converted, Notes.note_converted}
use Rattle.goblin_c.specs.{Sections.section_converted, Segments.segment_converted, Symbols.symbol_converted}
use Rattle.goblin_c.specs.{declared.layout.GoblinLayout.GoblinLayout}
use Rattle.std.specs.Prelude.{[], pos, ℕ, ◌*◌, ◌+◌, ◌-◌, ◌/◌, ◌^◌, ◌∷◌}

-- the number of so many bytes, each of which is a mark
abbrev pub each_byte : ℕ → ℕ → ℕ
each_byte width mark = mark * ((256 ^ width - 1) / 255)

-- a range whose fields have a mark and the next one
abbrev pub range_marked : ℕ → GoblinRange
range_marked mark = record { offset = each_byte 8 mark; size = each_byte 8 (mark + 1) }

-- The sizes, and one of each struct, whose fields have the marks from 1 on, those of a range in it too. It is converted
-- from a record of the library, except those of a refusal, a range and a relocation.
abbrev pub marked : GoblinLayout
marked = record {
  size_of_refusal = 48;
  size_of_range = 16;
  size_of_header = 56;
  size_of_section = 64;
  size_of_segment = 56;
  size_of_symbol = 24;
  size_of_reloc = 24;
  size_of_note = 48;
  size_of_dyn = 16;
  size_of_file = 72;
  refusal = record {
    kind = each_byte 4 1;
    item = each_byte 4 2;
    first = each_byte 8 3;
    second = each_byte 8 4;
    third = each_byte 8 5;
    fourth = each_byte 8 6;
    offset = each_byte 8 7;
  };
  range = range_marked 1;
  header = header_converted (header_of_values (0 ∷ 0 ∷ 0 ∷ 0 ∷ 14 ∷ 15 ∷ 16 ∷ 17 ∷ 18 ∷ [])
      (each_byte 2 6 ∷ each_byte 2 7 ∷ each_byte 4 4 ∷ each_byte 8 1 ∷ each_byte 8 2 ∷ each_byte 8 3 ∷ each_byte 4 5
      ∷ each_byte 2 8 ∷ each_byte 2 9 ∷ each_byte 2 10 ∷ each_byte 2 11 ∷ each_byte 2 12 ∷ each_byte 2 13 ∷ []));
  section = section_converted (section_header_of_values (each_byte 4 1 ∷ each_byte 4 2 ∷ each_byte 8 3 ∷ each_byte 8 4
      ∷ each_byte 8 5 ∷ each_byte 8 6 ∷ each_byte 4 7 ∷ each_byte 4 8 ∷ each_byte 8 9 ∷ each_byte 8 10 ∷ []));
  segment = segment_converted (program_header_of_values (each_byte 4 1 ∷ each_byte 4 2 ∷ each_byte 8 3 ∷ each_byte 8 5
      ∷ each_byte 8 6 ∷ each_byte 8 4 ∷ each_byte 8 7 ∷ each_byte 8 8 ∷ []));
  symbol = symbol_converted (sym_of_values
      (each_byte 4 1 ∷ 2 ∷ 3 ∷ each_byte 2 4 ∷ each_byte 8 5 ∷ each_byte 8 6 ∷ []));
  reloc = record {
    r_offset = each_byte 8 1;
    r_type = each_byte 4 2;
    r_sym = each_byte 4 3;
    r_addend = pos (each_byte 8 4);
  };
  note = note_converted 0 (record {
    n_type = each_byte 4 6;
    name = each_byte 8 1;
    name_size = each_byte 8 2;
    desc = each_byte 8 3;
    desc_size = each_byte 8 4;
    next = each_byte 8 5;
  });
  entry = dyn_converted (record { d_tag = each_byte 8 1; d_val = each_byte 8 2 });
}
