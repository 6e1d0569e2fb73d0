-- The symbol of an address (System V gABI, "Symbol Table").
use Rattle.std.specs.Prelude.{◌≡◌, ◌≢◌, ◌↔◌, ◌⊎◌, ◌+◌, ◌<◌, ◌≤◌, ◌==◌, ◌&&◌, ◌||◌, not, ℕ, Bool, true, false, nat_lt}
use Rattle.std.specs.Prelude.{nat_le, if◌then◌else◌, List, position, slice_get, Option, Some, None, unwrap_or}
use Rattle.std.specs.Prelude.{IsTrue}
use Rattle.goblin.specs.Common.{list_any, Sym, is_in_section}
use Rattle.std.specs.Option.{option_map, option_or}
use Rattle.goblin_headers.specs.SectionHeader.{has_flag}
use Rattle.goblin_headers.specs.declared.section_header.SectionHeader.{SectionHeader}
use Rattle.goblin_records.specs.SymParts.{type_of}

-- a symbol has an address in a section: its section index is one of the file's, and its type is none (0), an object
-- (1), a function (2) or an indirect one (10)
abbrev pub has_place : Sym → Bool
has_place s =
    let typ = type_of s.st_info in
    is_in_section s && (typ == 0 || typ == 1 || typ == 2 || typ == 10)

-- it is at an address or below it
abbrev pub is_below : ℕ → Sym → Bool
is_below address s = has_place s && nat_le s.st_value address

-- its bytes reach past an address
abbrev pub reaches : ℕ → Sym → Bool
reaches address s = nat_lt address (s.st_value + s.st_size)

-- its bytes contain an address
abbrev pub contains : ℕ → Sym → Bool
contains address s = is_below address s && reaches address s

-- a section is in memory while the program runs: bit 1 of its flags (SHF_ALLOC)
abbrev pub is_in_memory : SectionHeader → Bool
is_in_memory section = has_flag section 2

-- a section holds an address: one of its own, which only sections in memory have. In a relocatable file (type 1) the
-- symbols have offsets in their sections in place of addresses, so there a section holds what is below its size
abbrev pub holds : ℕ → ℕ → SectionHeader → Bool
holds address e_type section =
    if e_type == 1 then nat_lt address section.sh_size
    else is_in_memory section && nat_le section.sh_addr address && nat_lt address (section.sh_addr + section.sh_size)

-- the section of a symbol holds an address. Indices from 0xff00 on name no section, and index 0 has no place
abbrev pub is_held : ℕ → List SectionHeader → ℕ → Sym → Bool
is_held address sections e_type s =
    nat_lt s.st_shndx 0xff00
    && unwrap_or (option_map (holds address e_type) (slice_get sections s.st_shndx)) false

-- a symbol is a candidate for an address: it is there or below, and its bytes contain the address or its section holds
-- it
abbrev pub is_candidate : ℕ → List SectionHeader → ℕ → Sym → Bool
is_candidate address sections e_type s = is_below address s && (reaches address s || is_held address sections e_type s)

-- a symbol passes a test, and none that passes it is higher
abbrev pub is_highest : (Sym → Bool) → List Sym → Sym → Bool
is_highest test symbols s = test s && not (list_any (λ other. test other && nat_lt s.st_value other.st_value) symbols)

-- the index of the symbol of an address: the first of the highest that contain it; else of the highest candidates the
-- first of size 0, a label
unfoldable pub symbol_at : ℕ → List SectionHeader → ℕ → List Sym → Option ℕ
symbol_at address sections e_type symbols =
    option_or (position (is_highest (contains address) symbols) symbols)
    (position (λ s. is_highest (is_candidate address sections e_type) symbols s && s.st_size == 0) symbols)

-- of two candidates for an address the first is nearer: it contains the address and the other doesn't; or both do or
-- don't, and it is higher; or they are equally high, too, and it has size 0 while the other hasn't
abbrev pub is_nearer : ℕ → Sym → Sym → Bool
is_nearer address s other =
    if reaches address s then not (reaches address other) || nat_lt other.st_value s.st_value
    else not (reaches address other)
    && (nat_lt other.st_value s.st_value
    || (other.st_value == s.st_value && s.st_size == 0 && not (other.st_size == 0)))

-- a symbol is nearer than the one that was found before it, if there is one
abbrev pub is_nearest : ℕ → Sym → Option (ℕ × Sym) → Bool
is_nearest address s None = true
is_nearest address s (Some found) = is_nearer address s found.1

-- it replaces that one
abbrev pub is_taken : ℕ → List SectionHeader → ℕ → Sym → Option (ℕ × Sym) → Bool
is_taken address sections e_type s found = is_candidate address sections e_type s && is_nearest address s found

-- the symbol found so far with its index, after the symbol with index i
abbrev pub taken : ℕ → List SectionHeader → ℕ → ℕ → Sym → Option (ℕ × Sym) → Option (ℕ × Sym)
taken address sections e_type i s found = if is_taken address sections e_type s found then Some (i, s) else found

-- the index of the symbol that was found in the end, if it contains the address or has size 0
abbrev pub found_at : ℕ → Option (ℕ × Sym) → Option ℕ
found_at address (Some found) = if reaches address found.1 || found.1.st_size == 0 then Some found.0 else None
found_at address None = None

-- no symbol contains an address
abbrev pub NoneContains : ℕ → List Sym → Type 0
NoneContains address symbols = (k : ℕ) (other : Sym) → slice_get symbols k ≡ Some other → contains address other ≡ false

-- The symbol with index i contains the address. None that contains it is higher, and none as high has a lower index.
pub record ContainsFirst (address : ℕ) (symbols : List Sym) (i : ℕ) (s : Sym) : Type 0 where
  pub inside : contains address s ≡ true
  pub high : (k : ℕ) (other : Sym)
      → slice_get symbols k ≡ Some other → contains address other ≡ true → other.st_value ≤ s.st_value
  pub early : (k : ℕ) (other : Sym)
      → slice_get symbols k ≡ Some other → contains address other ≡ true → other.st_value ≡ s.st_value → i ≤ k

-- a section holds an address, for which it must be in memory (SHF_ALLOC, bit 1 of its flags); in a relocatable file
-- (type 1) an offset
abbrev pub HoldsAddress : ℕ → ℕ → SectionHeader → Type 0
HoldsAddress address e_type section =
    ((e_type ≡ 1) × (address < section.sh_size))
    ⊎ ((e_type ≢ 1) × IsTrue (has_flag section 2) × (section.sh_addr ≤ address)
    × (address < section.sh_addr + section.sh_size))

-- A symbol is at an address or below it, and the section that its index names holds the address.
pub record IsBelowInSection (address : ℕ) (sections : List SectionHeader) (e_type : ℕ) (s : Sym) : Type 0 where
  pub below : is_below address s ≡ true
  pub named : s.st_shndx < 0xff00
  pub section : SectionHeader
  pub there : slice_get sections s.st_shndx ≡ Some section
  pub has : HoldsAddress address e_type section

-- No symbol contains the address. The symbol with index i has size 0, and is at the address or below it in a section
-- that holds it. None of those there is higher, and none of size 0 that is as high has a lower index.
pub record LabelsFirst (address : ℕ) (sections : List SectionHeader) (e_type : ℕ) (symbols : List Sym)
    (i : ℕ) (s : Sym) : Type 0 where
  pub none : NoneContains address symbols
  pub below : IsBelowInSection address sections e_type s
  pub empty : s.st_size ≡ 0
  pub high : (k : ℕ) (other : Sym)
      → slice_get symbols k ≡ Some other → IsBelowInSection address sections e_type other
      → other.st_value ≤ s.st_value
  pub early : (k : ℕ) (other : Sym)
      → slice_get symbols k ≡ Some other → IsBelowInSection address sections e_type other
      → other.st_value ≡ s.st_value → other.st_size ≡ 0
      → i ≤ k

-- No symbol contains the address, and for each of size 0 at the address or below it in a section that holds it another
-- one there is higher.
pub record HasNone (address : ℕ) (sections : List SectionHeader) (e_type : ℕ) (symbols : List Sym) : Type 0 where
  pub none : NoneContains address symbols
  pub higher : (k : ℕ) (s : Sym)
      → slice_get symbols k ≡ Some s → IsBelowInSection address sections e_type s → s.st_size ≡ 0
      → (j : ℕ) × (other : Sym) × (slice_get symbols j ≡ Some other)
      × IsBelowInSection address sections e_type other × (s.st_value < other.st_value)

-- the symbol at an index is the one of the address, as its bytes or as a label; or there is none
abbrev pub IsSymbolAt : ℕ → List SectionHeader → ℕ → List Sym → Option ℕ → Type 0
IsSymbolAt address sections e_type symbols (Some i) =
    (s : Sym) × (slice_get symbols i ≡ Some s)
    × (ContainsFirst address symbols i s ⊎ LabelsFirst address sections e_type symbols i s)
IsSymbolAt address sections e_type symbols None = HasNone address sections e_type symbols

-- this is what a search returns, and nothing else
abbrev pub SymbolAtComesFirst : Type 0
SymbolAtComesFirst =
    (address : ℕ) (sections : List SectionHeader) (e_type : ℕ) (symbols : List Sym) (answer : Option ℕ)
    → (symbol_at address sections e_type symbols ≡ answer) ↔ IsSymbolAt address sections e_type symbols answer
