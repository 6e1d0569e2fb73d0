-- Laws of calls for several kinds of items.
use Rattle.goblin_c.specs.Common.{Dyn, GoblinDyn, GoblinHeader, GoblinRange, GoblinReloc, GoblinSection, GoblinSegment}
use Rattle.goblin_c.specs.Common.{GoblinSymbol, IsBytes, Misfit, ProgramHeader, Reloc, SectionHeader, Sym, has_name}
use Rattle.goblin_c.specs.Common.{is_utf8, plain, ◌>>=◌}
use Rattle.goblin_c.specs.Dynamic.{DynFits, dyn_from_c, dyn_layout_of, dyn_put_expected, entry_expected}
use Rattle.goblin_c.specs.Numbers.{IsItsRange, LiesIn, number_expected, number_in_expected, number_in_put_expected}
use Rattle.goblin_c.specs.Relocs.{RelocFitsTable, reloc_converted, reloc_count_expected, reloc_expected, reloc_from_c}
use Rattle.goblin_c.specs.Relocs.{reloc_layout_of, reloc_put_expected, relocs_expected, relocs_from_expected}
use Rattle.goblin_c.specs.Sections.{SectionFits, section_by_name_expected, section_converted, section_count_expected}
use Rattle.goblin_c.specs.Sections.{section_expected, section_from_c, section_layout_of, section_put_expected}
use Rattle.goblin_c.specs.Sections.{section_range_expected, sections_expected, sections_from_expected}
use Rattle.goblin_c.specs.Segments.{SegmentFits, segment_converted, segment_count_expected, segment_expected}
use Rattle.goblin_c.specs.Segments.{segment_from_c, segment_layout_of, segment_put_expected, segment_range_expected}
use Rattle.goblin_c.specs.Symbols.{SymbolFits, symbol_by_name_expected, symbol_converted, symbol_count_expected}
use Rattle.goblin_c.specs.Symbols.{symbol_expected, symbol_from_c, symbol_layout_of, symbol_put_expected}
use Rattle.goblin_c.specs.{File.whole_header_for_c, Items.GivenFrom, Items.first_item, Numbers.number_put_expected}
use Rattle.goblin_c.specs.{Puts.ChangesOnly, Puts.IsUnfit, Results.RefusalAt, Segments.segments_from_expected}
use Rattle.goblin_c.specs.{Strings.string_expected, Strings.strings_expected, Symbols.symbols_expected}
use Rattle.goblin_c.specs.{Symbols.symbols_from_expected}
use Rattle.std.specs.Prelude.{Bool, IsOk, List, None, Ok, Option, Result, Some, length, slice_get, true, ℕ, ◌*◌, ◌+◌}
use Rattle.std.specs.Prelude.{◌≡◌, ◌≢◌, ◌⊎◌}

-- with another header a call isn't refused, and stores what it stores with the plain one if that isn't refused
abbrev pub KeepsWhatIsRead : {Y : Type 0} → Result Y RefusalAt → Result Y RefusalAt → Type 0
KeepsWhatIsRead plain other = IsOk other × (IsOk plain → other ≡ plain)

-- so it is with the header that counts only what lies whole in the file, for each call that reads headers; its other
-- fields stay
pub record WholeKeeps (bytes : List ℕ) (h : GoblinHeader) : Type 0 where
  pub section_count :
      KeepsWhatIsRead (section_count_expected bytes h) (section_count_expected bytes (whole_header_for_c bytes h))
  pub section :
      (index : ℕ)
      → KeepsWhatIsRead (section_expected bytes h index) (section_expected bytes (whole_header_for_c bytes h) index)
  pub segment_count :
      KeepsWhatIsRead (segment_count_expected bytes h) (segment_count_expected bytes (whole_header_for_c bytes h))
  pub segment :
      (index : ℕ)
      → KeepsWhatIsRead (segment_expected bytes h index) (segment_expected bytes (whole_header_for_c bytes h) index)
  pub others : record (whole_header_for_c bytes h) { e_shoff = h.e_shoff; e_shnum = h.e_shnum; e_phnum = h.e_phnum } ≡ h

abbrev pub WholeHeaderKeeps : Type 0
WholeHeaderKeeps = (bytes : List ℕ) (h : GoblinHeader) → WholeKeeps bytes h

-- the calls that fill a buffer store from each index on what the calls by index store
pub record FilledByIndex : Type 0 where
  pub sections :
      (bytes : List ℕ) (h : GoblinHeader) (first : ℕ)
      → GivenFrom first (section_expected bytes h) (sections_from_expected bytes h first)
  pub segments :
      (bytes : List ℕ) (h : GoblinHeader) (first : ℕ)
      → GivenFrom first (segment_expected bytes h) (segments_from_expected bytes h first)
  pub symbols :
      (bytes : List ℕ) (h : GoblinHeader) (range : GoblinRange) (first : ℕ)
      → GivenFrom first (symbol_expected bytes h range) (symbols_from_expected bytes h range first)
  pub relocs :
      (bytes : List ℕ) (h : GoblinHeader) (range : GoblinRange) (is_rela : Bool) (first : ℕ)
      → GivenFrom first (reloc_expected bytes h range is_rela) (relocs_from_expected bytes h range is_rela first)

-- the ranges that are stored for bytes lie in the file
pub record BytesLieInFile : Type 0 where
  pub section :
      (bytes : List ℕ) (s : GoblinSection) (found : GoblinRange)
      → section_range_expected bytes s ≡ Ok (Some found) → LiesIn bytes found
  pub segment :
      (bytes : List ℕ) (s : GoblinSegment) (found : GoblinRange)
      → segment_range_expected bytes s ≡ Ok (Some found) → LiesIn bytes found
  pub string :
      (bytes : List ℕ) (range : GoblinRange) (offset : ℕ) (found : GoblinRange)
      → string_expected bytes range offset ≡ Ok (Some found) → LiesIn bytes found

-- a section of type 0 or 8 or without a size has no bytes, nor has a segment of type 0 or without a size
pub record EmptyHaveNoBytes : Type 0 where
  pub section :
      (bytes : List ℕ) (s : GoblinSection)
      → (s.sh_type ≡ 0) ⊎ (s.sh_type ≡ 8) ⊎ (s.file.size ≡ 0) → section_range_expected bytes s ≡ Ok None
  pub segment :
      (bytes : List ℕ) (s : GoblinSegment)
      → (s.p_type ≡ 0) ⊎ (s.file.size ≡ 0) → segment_range_expected bytes s ≡ Ok None

-- a section of another type than 0 and 8 and with a size has the bytes of its range, and so has a segment of another
-- type than 0 and with a size
pub record BytesAreFound : Type 0 where
  pub section :
      (bytes : List ℕ) (s : GoblinSection)
      → s.sh_type ≢ 0 → s.sh_type ≢ 8 → s.file.size ≢ 0 → IsItsRange bytes s.file (section_range_expected bytes s)
  pub segment :
      (bytes : List ℕ) (s : GoblinSegment)
      → s.p_type ≢ 0 → s.file.size ≢ 0 → IsItsRange bytes s.file (segment_range_expected bytes s)

-- with a name that is UTF-8 a search finds what it finds by strings that are read as UTF-8
pub record TextIsFound : Type 0 where
  pub section :
      (bytes : List ℕ) (h : GoblinHeader) (names : GoblinRange) (name : List ℕ) (first : ℕ)
      → is_utf8 name ≡ true
      → section_by_name_expected bytes h names name first
      ≡ (sections_expected bytes h >>= λ sections. strings_expected bytes names >>= λ strings.
      Ok (first_item section_converted (λ section. has_name strings 0 section.sh_name name) first sections))
  pub symbol :
      (bytes : List ℕ) (h : GoblinHeader) (range names : GoblinRange) (name : List ℕ) (first : ℕ)
      → is_utf8 name ≡ true
      → symbol_by_name_expected bytes h range names name first
      ≡ (symbols_expected bytes h range >>= λ symbols. strings_expected bytes names >>= λ strings.
      Ok (first_item symbol_converted (λ symbol. has_name strings 0 symbol.st_name name) first symbols))

-- a record that fits and was put is stored by the call that reads it, if the list has as many items as before
pub record PutsAreRead : Type 0 where
  pub section :
      (bytes new : List ℕ) (h : GoblinHeader) (index : ℕ) (s : GoblinSection)
      → SectionFits h s → section_put_expected bytes h index s None ≡ Ok (Some new)
      → section_count_expected new h ≡ section_count_expected bytes h
      → section_expected new h index ≡ Ok (Some s)
  pub segment :
      (bytes new : List ℕ) (h : GoblinHeader) (index : ℕ) (s : GoblinSegment)
      → SegmentFits h s → segment_put_expected bytes h index s None ≡ Ok (Some new)
      → segment_count_expected new h ≡ segment_count_expected bytes h
      → segment_expected new h index ≡ Ok (Some s)
  pub symbol :
      (bytes new : List ℕ) (h : GoblinHeader) (table : GoblinRange) (index : ℕ) (s : GoblinSymbol)
      → SymbolFits h s → symbol_put_expected bytes h table index s None ≡ Ok (Some new)
      → symbol_count_expected new h table ≡ symbol_count_expected bytes h table
      → symbol_expected new h table index ≡ Ok (Some s)
  pub reloc :
      (bytes new : List ℕ) (h : GoblinHeader) (table : GoblinRange) (is_rela : Bool) (index : ℕ) (r : GoblinReloc)
      → RelocFitsTable h is_rela r → reloc_put_expected bytes h table is_rela index r None ≡ Ok (Some new)
      → reloc_count_expected new h table is_rela ≡ reloc_count_expected bytes h table is_rela
      → reloc_expected new h table is_rela index ≡ Ok (Some r)
  pub entry :
      (bytes new : List ℕ) (h : GoblinHeader) (range : GoblinRange) (index : ℕ) (d : GoblinDyn)
      → DynFits h d → dyn_put_expected bytes h range index d None ≡ Ok (Some new)
      → entry_expected new h range index ≡ Ok (Some (dyn_from_c d))

-- files of the same length have as many symbols and relocations in a range
pub record CountsStay : Type 0 where
  pub symbol :
      (bytes new : List ℕ) (h : GoblinHeader) (table : GoblinRange)
      → length new ≡ length bytes → symbol_count_expected new h table ≡ symbol_count_expected bytes h table
  pub reloc :
      (bytes new : List ℕ) (h : GoblinHeader) (table : GoblinRange) (is_rela : Bool)
      → length new ≡ length bytes
      → reloc_count_expected new h table is_rela ≡ reloc_count_expected bytes h table is_rela

-- only the bytes of the record change
pub record PutsChangeOne : Type 0 where
  pub section :
      (bytes new : List ℕ) (h : GoblinHeader) (index : ℕ) (s : GoblinSection) (misfit : Option Misfit)
      → section_put_expected bytes h index s misfit ≡ Ok (Some new)
      → ChangesOnly (h.e_shoff + index * (section_layout_of h).size) (section_layout_of h).size bytes new
  pub segment :
      (bytes new : List ℕ) (h : GoblinHeader) (index : ℕ) (s : GoblinSegment) (misfit : Option Misfit)
      → segment_put_expected bytes h index s misfit ≡ Ok (Some new)
      → ChangesOnly (h.e_phoff + index * (segment_layout_of h).size) (segment_layout_of h).size bytes new
  pub symbol :
      (bytes new : List ℕ) (h : GoblinHeader) (table : GoblinRange) (index : ℕ) (s : GoblinSymbol)
      (misfit : Option Misfit)
      → symbol_put_expected bytes h table index s misfit ≡ Ok (Some new)
      → ChangesOnly (table.offset + index * (symbol_layout_of h).size) (symbol_layout_of h).size bytes new
  pub reloc :
      (bytes new : List ℕ) (h : GoblinHeader) (table : GoblinRange) (is_rela : Bool) (index : ℕ) (r : GoblinReloc)
      (misfit : Option Misfit)
      → reloc_put_expected bytes h table is_rela index r misfit ≡ Ok (Some new)
      → let size = (reloc_layout_of h is_rela).size in ChangesOnly (table.offset + index * size) size bytes new
  pub entry :
      (bytes new : List ℕ) (h : GoblinHeader) (range : GoblinRange) (index : ℕ) (d : GoblinDyn) (misfit : Option Misfit)
      → dyn_put_expected bytes h range index d misfit ≡ Ok (Some new)
      → ChangesOnly (range.offset + index * (dyn_layout_of h).size) (dyn_layout_of h).size bytes new

-- what the call that reads stores fits, and if it is put at its index, no byte changes; a relocation may be put back
-- so, too
pub record ReadsArePut : Type 0 where
  pub section :
      (bytes : List ℕ) (h : GoblinHeader) (index : ℕ) (s : GoblinSection)
      → IsBytes bytes → section_expected bytes h index ≡ Ok (Some s)
      → SectionFits h s × (section_put_expected bytes h index s None ≡ Ok (Some bytes))
  pub segment :
      (bytes : List ℕ) (h : GoblinHeader) (index : ℕ) (s : GoblinSegment)
      → IsBytes bytes → segment_expected bytes h index ≡ Ok (Some s)
      → SegmentFits h s × (segment_put_expected bytes h index s None ≡ Ok (Some bytes))
  pub symbol :
      (bytes : List ℕ) (h : GoblinHeader) (table : GoblinRange) (index : ℕ) (s : GoblinSymbol)
      → IsBytes bytes → symbol_expected bytes h table index ≡ Ok (Some s)
      → SymbolFits h s × (symbol_put_expected bytes h table index s None ≡ Ok (Some bytes))
  pub reloc :
      (bytes : List ℕ) (h : GoblinHeader) (table : GoblinRange) (is_rela : Bool) (index : ℕ) (r : GoblinReloc)
      → IsBytes bytes → reloc_expected bytes h table is_rela index ≡ Ok (Some r)
      → reloc_put_expected bytes h table is_rela index r None ≡ Ok (Some bytes)
  pub entry :
      (bytes : List ℕ) (h : GoblinHeader) (range : GoblinRange) (index : ℕ) (d : GoblinDyn)
      → IsBytes bytes → entry_expected bytes h range index ≡ Ok (Some (dyn_from_c d))
      → DynFits h d × (dyn_put_expected bytes h range index d None ≡ Ok (Some bytes))

-- of an item that the library reads C has all
pub record ItemsAreWhole : Type 0 where
  pub section :
      (bytes : List ℕ) (h : GoblinHeader) (sections : List SectionHeader) (index : ℕ) (s : SectionHeader)
      → IsBytes bytes → sections_expected bytes h ≡ Ok sections → slice_get sections index ≡ Some s
      → section_from_c (section_converted s) ≡ s
  pub segment : (s : ProgramHeader) → segment_from_c (segment_converted s) ≡ s
  pub symbol :
      (bytes : List ℕ) (h : GoblinHeader) (table : GoblinRange) (symbols : List Sym) (index : ℕ) (s : Sym)
      → IsBytes bytes → symbols_expected bytes h table ≡ Ok symbols → slice_get symbols index ≡ Some s
      → symbol_from_c (symbol_converted s) ≡ s
  pub reloc :
      (bytes : List ℕ) (h : GoblinHeader) (table : GoblinRange) (is_rela : Bool) (relocs : List Reloc) (index : ℕ)
      (r : Reloc)
      → IsBytes bytes → relocs_expected bytes h table is_rela ≡ Ok relocs → slice_get relocs index ≡ Some r
      → reloc_from_c is_rela (reloc_converted r) ≡ r

-- so is what doesn't fit, if the call that reads stores an item there
pub record UnfitAreRefused : Type 0 where
  pub section :
      (bytes : List ℕ) (h : GoblinHeader) (index : ℕ) (s found : GoblinSection) (misfit : Misfit)
      → section_expected bytes h index ≡ Ok (Some found)
      → let place = h.e_shoff + index * (section_layout_of h).size in
      IsUnfit place misfit (section_put_expected bytes h index s (Some misfit))
  pub segment :
      (bytes : List ℕ) (h : GoblinHeader) (index : ℕ) (s found : GoblinSegment) (misfit : Misfit)
      → segment_expected bytes h index ≡ Ok (Some found)
      → let place = h.e_phoff + index * (segment_layout_of h).size in
      IsUnfit place misfit (segment_put_expected bytes h index s (Some misfit))
  pub symbol :
      (bytes : List ℕ) (h : GoblinHeader) (table : GoblinRange) (index : ℕ) (s found : GoblinSymbol)
      (misfit : Misfit)
      → symbol_expected bytes h table index ≡ Ok (Some found)
      → let place = table.offset + index * (symbol_layout_of h).size in
      IsUnfit place misfit (symbol_put_expected bytes h table index s (Some misfit))
  pub reloc :
      (bytes : List ℕ) (h : GoblinHeader) (table : GoblinRange) (is_rela : Bool) (index : ℕ) (r found : GoblinReloc)
      (misfit : Misfit)
      → reloc_expected bytes h table is_rela index ≡ Ok (Some found)
      → let place = table.offset + index * (reloc_layout_of h is_rela).size in
      IsUnfit place misfit (reloc_put_expected bytes h table is_rela index r (Some misfit))
  pub entry :
      (bytes : List ℕ) (h : GoblinHeader) (range : GoblinRange) (index : ℕ) (d : GoblinDyn) (found : Dyn)
      (misfit : Misfit)
      → entry_expected bytes h range index ≡ Ok (Some found)
      → IsUnfit (range.offset + index * (dyn_layout_of h).size) misfit
      (dyn_put_expected bytes h range index d (Some misfit))
  pub number :
      (bytes : List ℕ) (h : GoblinHeader) (offset width value found : ℕ) (misfit : Misfit)
      → number_expected bytes h offset width ≡ Ok (Some found)
      → IsUnfit offset misfit (number_put_expected bytes h offset width value (Some misfit))
  pub number_in :
      (bytes : List ℕ) (h : GoblinHeader) (range : GoblinRange) (offset width value found : ℕ)
      (misfit : Misfit)
      → number_in_expected bytes h range offset width ≡ Ok (Some found)
      → IsUnfit (range.offset + offset) misfit (number_in_put_expected bytes h range offset width value (Some misfit))
