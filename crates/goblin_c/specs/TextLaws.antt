-- Each refusal of each call, but goblin_build_id, has the library's text when it is converted for C.
use Rattle.goblin_base.specs.{Eager.records_from, Eager.records_in, Eager.room_of_each, Record.read_within}
use Rattle.goblin_base.specs.{declared.container.Endian.Endian}
use Rattle.goblin_c.specs.Common.{Big, Ctx, DataType, GoblinDyn, GoblinHeader, GoblinRange, GoblinReloc, GoblinSection}
use Rattle.goblin_c.specs.Common.{GoblinSegment, GoblinSymbol, IntegerFit, Layout, Little, Misfit, PartRefusal, Refusal}
use Rattle.goblin_c.specs.Common.{buffer_too_short, header_layout, header_size, malformed, misplaced, places_at}
use Rattle.goblin_c.specs.Common.{range_in, read_header, read_in_order, read_places, refusal_of, refusal_text}
use Rattle.goblin_c.specs.Common.{refuse_as, room_of, section_headers_from, section_headers_from_tested, with_size}
use Rattle.goblin_c.specs.Common.{◌>>=◌}
use Rattle.goblin_c.specs.Dynamic.{dyn_put_expected, dynamic_count_expected, dynamic_expected, dynamic_strings_expected}
use Rattle.goblin_c.specs.Dynamic.{dynamic_value_expected, entries_from_expected, entry_expected}
use Rattle.goblin_c.specs.File.{context_of, header_expected, header_put_expected, named_ctx}
use Rattle.goblin_c.specs.Notes.{note_expected, note_utf8_expected, note_whole_expected, part_converted, parts_at}
use Rattle.goblin_c.specs.Numbers.{number_expected, number_in_expected, number_in_put_expected, number_put_expected}
use Rattle.goblin_c.specs.Relocs.{reloc_count_expected, reloc_expected, reloc_put_expected, relocs_expected}
use Rattle.goblin_c.specs.Results.{RefusalAt, refusal_converted, refused_at}
use Rattle.goblin_c.specs.Sections.{names_section_expected, section_by_name_expected, section_by_type_expected}
use Rattle.goblin_c.specs.Sections.{section_count_expected, section_expected, section_put_expected}
use Rattle.goblin_c.specs.Sections.{section_range_expected, sections_expected, sections_from_expected, table_expected}
use Rattle.goblin_c.specs.Segments.{address_to_offset_expected, segment_count_expected, segment_expected}
use Rattle.goblin_c.specs.Segments.{segment_put_expected, segment_range_expected, segments_expected}
use Rattle.goblin_c.specs.Strings.{closed_strings_expected, string_closed_expected, string_expected}
use Rattle.goblin_c.specs.Symbols.{symbol_by_address_expected, symbol_by_name_expected, symbol_count_expected}
use Rattle.goblin_c.specs.Symbols.{symbol_expected, symbol_put_expected, symbols_expected, symbols_from_expected}
use Rattle.goblin_c.specs.Texts.{NamesKnown, TextIsSame, converted_text, with_misfit}
use Rattle.goblin_c.specs.{Notes.read_parts, Puts.Put, Puts.put_if_there, Puts.put_unless, Relocs.relocs_from_expected}
use Rattle.goblin_c.specs.{Segments.segments_from_expected, Strings.string_utf8_expected, Strings.strings_expected}
use Rattle.std.proofs.Common.{Bool, Err, List, None, Ok, Option, Result, Some, arith, codes, inl, inr, refl, suc, zero}
use Rattle.std.proofs.Common.{ℕ, ◌+◌, ◌≡◌, ◌⊎◌}
use Rattle.std.specs.Bool.{⊤}

pub text_same : TextIsSame
text_same why known = grind arith

-- the refusal of a result, converted for C, has the library's text
abbrev pub HasSameText : {X : Type 0} → Result X RefusalAt → Type 0
HasSameText (Ok x) = ⊤
HasSameText (Err why) = converted_text (refusal_converted why) ≡ refusal_text why.refusal

-- so has the refusal of a put: it is one that is converted, or that of a value that doesn't fit
abbrev pub PutHasSameText : Put → Type 0
PutHasSameText (Ok x) = ⊤
PutHasSameText (Err why) =
    ((e : RefusalAt) × (why ≡ refusal_converted e) × (converted_text why ≡ refusal_text e.refusal))
    ⊎ ((why.kind ≡ 24)
    × (converted_text why ≡ with_misfit why (refusal_text (malformed (IntegerFit (record { 0 = tt }))))))

-- so has the refusal of a whole note, whose item is the part
abbrev pub PartHasSameText : {X : Type 0} → ℕ → Result X PartRefusal → Type 0
PartHasSameText offset (Ok x) = ⊤
PartHasSameText offset (Err e) = converted_text (part_converted offset e) ≡ refusal_text e.refusal

abbrev pub PartsHaveSameText : Type 0
PartsHaveSameText =
    (bytes : List ℕ) (h : GoblinHeader) (range : GoblinRange) (alignment offset : ℕ)
    → PartHasSameText offset (note_whole_expected bytes h range alignment offset)

-- the refusal of a result names no item, or one that has a number
abbrev Known : {X : Type 0} → Result X Refusal → Type 0
Known (Ok x) = ⊤
Known (Err refusal) = NamesKnown refusal

abbrev KnownAt : {X : Type 0} → Result X RefusalAt → Type 0
KnownAt (Ok x) = ⊤
KnownAt (Err why) = NamesKnown why.refusal

same_text : {X : Type 0} (answer : Result X RefusalAt) → KnownAt answer → HasSameText answer
same_text answer known = grind (arith, text_same)

-- what the library refuses: a place without room, a header
known_room : (len offset size : ℕ) → Known (refuse_as misplaced (room_of len offset size))
unfolding room_of
known_room len offset size = grind arith

known_each : (len offset size count : ℕ) → Known (refuse_as misplaced (room_of_each len offset size count))
known_each len offset size zero = tt
known_each len offset size (suc count) =
    grind (arith, known_room len offset size, known_each len (offset + size) size count)

known_in_order : {R : Type 0} (layout : Endian → Layout R) (size : ℕ) (bytes : List ℕ)
    → Known (refuse_as refusal_of (with_size size (read_in_order layout DataType bytes)))
unfolding read_in_order
known_in_order layout size bytes = grind (arith, known_room)

known_header : (bytes : List ℕ) → Known (refuse_as refusal_of (read_header bytes))
unfolding read_header
known_header bytes =
    let little = known_in_order (header_layout Little) (header_size Little) bytes in
    let big = known_in_order (header_layout Big) (header_size Big) bytes in
    grind (arith, little, big)

-- the lists
known_sections : (bytes : List ℕ) (h : GoblinHeader) → KnownAt (sections_expected bytes h)
unfolding section_headers_from section_headers_from_tested records_in
known_sections bytes h =
    let known : NamesKnown (buffer_too_short 0 (codes "section headers")) = inl refl in
    grind (arith, known_room, known_each, known)

known_segments : (bytes : List ℕ) (h : GoblinHeader) → KnownAt (segments_expected bytes h)
unfolding records_from
known_segments bytes h =
    let known : NamesKnown (buffer_too_short 0 (codes "program headers")) = inr refl in
    grind (arith, known_room, known_each, known)

known_symbols : (bytes : List ℕ) (h : GoblinHeader) (range : GoblinRange) → KnownAt (symbols_expected bytes h range)
known_symbols bytes h range = grind arith

known_relocs :
    (bytes : List ℕ) (h : GoblinHeader) (range : GoblinRange) (is_rela : Bool)
    → KnownAt (relocs_expected bytes h range is_rela)
known_relocs bytes h range is_rela = grind (arith, known_room)

-- strings, and notes
known_strings : (bytes : List ℕ) (range : GoblinRange) → KnownAt (strings_expected bytes range)
unfolding range_in
known_strings bytes range = grind arith

known_note : (bytes : List ℕ) (offset : ℕ) (ctx : ℕ × Ctx) → Known (places_at bytes offset ctx)
unfolding places_at read_places read_within
known_note bytes offset ctx = grind (arith, known_room)

known_parts : (bytes : List ℕ) (offset : ℕ) (ctx : ℕ × Ctx) → Known (parts_at bytes offset ctx)
unfolding parts_at read_parts read_within
known_parts bytes offset ctx = grind (arith, known_room)

-- what is put, and the header
known_put : {X : Type 0} (found : Result (Option X) RefusalAt) (misfit : Option Misfit) (place : ℕ) (put : List ℕ)
    → KnownAt found → PutHasSameText (put_if_there found (put_unless misfit place put))
known_put (Ok (Some x)) None place put known = tt
known_put (Ok (Some x)) (Some misfit) place put known = inr (refl, refl)
known_put (Ok None) misfit place put known = tt
known_put (Err why) misfit place put known = inl (why, refl, text_same why known)

known_header_put : (ctx : Result Ctx RefusalAt) (misfit : Option Misfit) (put : Ctx → List ℕ)
    → KnownAt ctx → PutHasSameText (refuse_as refusal_converted ctx >>= λ c. put_unless misfit 0 (put c))
known_header_put (Ok ctx) None put known = tt
known_header_put (Ok ctx) (Some misfit) put known = inr (refl, refl)
known_header_put (Err why) misfit put known = inl (why, refl, text_same why known)

-- so does the refusal of each call with these arguments
pub record HaveSameText
    (bytes : List ℕ) (h : GoblinHeader) (range names : GoblinRange) (name : List ℕ) (is_rela : Bool)
    (index offset address alignment width sh_type value : ℕ) (s : GoblinSection) (p : GoblinSegment)
    (y : GoblinSymbol) (r : GoblinReloc) (d : GoblinDyn) (misfit : Option Misfit) : Type 0 where
  pub header : HasSameText (header_expected bytes)
  pub section_count : HasSameText (section_count_expected bytes h)
  pub section : HasSameText (section_expected bytes h index)
  pub sections : HasSameText (sections_from_expected bytes h index)
  pub names_section : HasSameText (names_section_expected bytes h)
  pub table : HasSameText (table_expected bytes h index)
  pub segment : HasSameText (segment_expected bytes h index)
  pub segments : HasSameText (segments_from_expected bytes h index)
  pub symbol : HasSameText (symbol_expected bytes h range index)
  pub symbols : HasSameText (symbols_from_expected bytes h range index)
  pub reloc : HasSameText (reloc_expected bytes h range is_rela index)
  pub relocs : HasSameText (relocs_from_expected bytes h range is_rela index)
  pub string_utf8 : HasSameText (string_utf8_expected bytes range offset)
  pub note_utf8 : HasSameText (note_utf8_expected bytes h range alignment offset)
  pub note : HasSameText (note_expected bytes h range alignment offset)
  pub section_by_name : HasSameText (section_by_name_expected bytes h names name index)
  pub symbol_by_name : HasSameText (symbol_by_name_expected bytes h range names name index)
  pub segment_count : HasSameText (segment_count_expected bytes h)
  pub symbol_count : HasSameText (symbol_count_expected bytes h range)
  pub reloc_count : HasSameText (reloc_count_expected bytes h range is_rela)
  pub symbol_by_address : HasSameText (symbol_by_address_expected bytes h range address)
  pub section_by_type : HasSameText (section_by_type_expected bytes h sh_type index)
  pub section_range : HasSameText (section_range_expected bytes s)
  pub segment_range : HasSameText (segment_range_expected bytes p)
  pub string : HasSameText (string_expected bytes range offset)
  pub string_closed : HasSameText (string_closed_expected bytes range offset)
  pub closed_strings : HasSameText (closed_strings_expected bytes range)
  pub number : HasSameText (number_expected bytes h offset width)
  pub number_in : HasSameText (number_in_expected bytes h range offset width)
  pub address_to_offset : HasSameText (address_to_offset_expected bytes h address)
  pub dynamic : HasSameText (dynamic_expected bytes h)
  pub dynamic_entries : HasSameText (entries_from_expected bytes h range index)
  pub dynamic_count : HasSameText (dynamic_count_expected bytes h range)
  pub dynamic_value : HasSameText (dynamic_value_expected bytes h range value index)
  pub dynamic_strings : HasSameText (dynamic_strings_expected bytes h range)
  pub put_header : PutHasSameText (header_put_expected bytes h misfit)
  pub put_section : PutHasSameText (section_put_expected bytes h index s misfit)
  pub put_segment : PutHasSameText (segment_put_expected bytes h index p misfit)
  pub put_symbol : PutHasSameText (symbol_put_expected bytes h range index y misfit)
  pub put_reloc : PutHasSameText (reloc_put_expected bytes h range is_rela index r misfit)
  pub put_entry : PutHasSameText (dyn_put_expected bytes h range index d misfit)
  pub put_number : PutHasSameText (number_put_expected bytes h offset width value misfit)
  pub put_number_in : PutHasSameText (number_in_put_expected bytes h range offset width value misfit)

-- so does each refusal of each call
abbrev pub RefusalsHaveSameText : Type 0
RefusalsHaveSameText =
    (bytes : List ℕ) (h : GoblinHeader) (range names : GoblinRange) (name : List ℕ) (is_rela : Bool)
    (index offset address alignment width sh_type value : ℕ) (s : GoblinSection) (p : GoblinSegment)
    (y : GoblinSymbol) (r : GoblinReloc) (d : GoblinDyn) (misfit : Option Misfit)
    → HaveSameText bytes h range names name is_rela index offset address alignment width sh_type value s p y r d misfit

pub refusals_have_same_text : RefusalsHaveSameText
refusals_have_same_text bytes h range names name is_rela index offset address alignment width sh_type value s p y r d
    misfit =
    let sections = known_sections bytes h in
    let segments = known_segments bytes h in
    let symbols = known_symbols bytes h range in
    let relocs = known_relocs bytes h range is_rela in
    let strings = known_strings bytes range in
    let names_known = known_strings bytes names in
    let note_known = known_note bytes offset (alignment, context_of h) in
    let parts_known = known_parts bytes offset (alignment, context_of h) in
    record {
      header = same_text (header_expected bytes) (grind (arith, known_header bytes));
      section_count = same_text (section_count_expected bytes h) (grind (arith, sections));
      section = same_text (section_expected bytes h index) (grind (arith, sections));
      sections = same_text (sections_from_expected bytes h index) (grind (arith, sections));
      names_section = same_text (names_section_expected bytes h) (grind (arith, sections));
      table = same_text (table_expected bytes h index) (grind (arith, sections));
      segment = same_text (segment_expected bytes h index) (grind (arith, segments));
      segments = same_text (segments_from_expected bytes h index) (grind (arith, segments));
      symbol = same_text (symbol_expected bytes h range index) (grind (arith, symbols));
      symbols = same_text (symbols_from_expected bytes h range index) (grind (arith, symbols));
      reloc = same_text (reloc_expected bytes h range is_rela index) (grind (arith, relocs));
      relocs = same_text (relocs_from_expected bytes h range is_rela index) (grind (arith, relocs));
      string_utf8 = same_text (string_utf8_expected bytes range offset) (grind (arith, strings));
      note_utf8 = same_text (note_utf8_expected bytes h range alignment offset) (grind (arith, note_known));
      note = same_text (note_expected bytes h range alignment offset) (grind (arith, parts_known));
      section_by_name = same_text (section_by_name_expected bytes h names name index)
          (grind (arith, sections, names_known));
      symbol_by_name = same_text (symbol_by_name_expected bytes h range names name index)
          (grind (arith, symbols, names_known));
      segment_count = same_text (segment_count_expected bytes h) (grind (arith, segments));
      symbol_count = same_text (symbol_count_expected bytes h range) (grind (arith, symbols));
      reloc_count = same_text (reloc_count_expected bytes h range is_rela) (grind (arith, relocs));
      symbol_by_address = same_text (symbol_by_address_expected bytes h range address)
          (grind (arith, symbols, sections));
      section_by_type = same_text (section_by_type_expected bytes h sh_type index) (grind (arith, sections));
      section_range = same_text (section_range_expected bytes s) (grind (arith, known_room));
      segment_range = same_text (segment_range_expected bytes p) (grind (arith, known_room));
      string = same_text (string_expected bytes range offset) (grind (arith, strings));
      string_closed = same_text (string_closed_expected bytes range offset) (grind (arith, strings));
      closed_strings = same_text (closed_strings_expected bytes range) (grind (arith, strings));
      number = same_text (number_expected bytes h offset width) (grind (arith, known_room));
      number_in = same_text (number_in_expected bytes h range offset width) (grind (arith, known_room));
      address_to_offset = same_text (address_to_offset_expected bytes h address) (grind (arith, segments, known_room));
      dynamic = same_text (dynamic_expected bytes h) (grind (arith, segments, sections, known_room));
      dynamic_entries = same_text (entries_from_expected bytes h range index) (grind (arith, known_room));
      dynamic_count = same_text (dynamic_count_expected bytes h range) (grind (arith, known_room));
      dynamic_value = same_text (dynamic_value_expected bytes h range value index) (grind (arith, known_room));
      dynamic_strings = same_text (dynamic_strings_expected bytes h range)
          (grind (arith, segments, sections, known_room));
      put_header = known_header_put (refused_at 0 (refuse_as refusal_of (named_ctx bytes h))) misfit _
          (grind (arith, known_room));
      put_section = known_put (section_expected bytes h index) misfit _ _ (grind (arith, sections));
      put_segment = known_put (segment_expected bytes h index) misfit _ _ (grind (arith, segments));
      put_symbol = known_put (symbol_expected bytes h range index) misfit _ _ (grind (arith, symbols));
      put_reloc = known_put (reloc_expected bytes h range is_rela index) misfit _ _ (grind (arith, relocs));
      put_entry = known_put (entry_expected bytes h range index) misfit _ _ (grind (arith, known_room));
      put_number = known_put (number_expected bytes h offset width) misfit _ _ (grind (arith, known_room));
      put_number_in = known_put (number_in_expected bytes h range offset width) misfit _ _ (grind (arith, known_room));
    }
