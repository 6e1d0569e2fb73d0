-- The looks that names in a text take: those of its lines, and what is left of them.
use Rattle.goblin_text.proofs.Common.{rules, ◌≡◌, ℕ, ◌+◌, ◌*◌, ◌≤◌, List, [], ◌∷◌, ◌++◌, arith, nat_tests, length}
use Rattle.goblin_text.proofs.Common.{length-append, length-map, CountsAtLeast, StringTable, vec_items, Header}
use Rattle.goblin_text.proofs.Common.{SectionHeader, parts_text, symbols_text, strings_in, section_lines, ◌==◌, filter}
use Rattle.goblin_text.proofs.Common.{refl}
use Rattle.goblin_text.specs.declared.accept.Parts.{Parts}
use Rattle.goblin_text.specs.declared.accept.SymbolPart.{SymbolPart}
use Rattle.goblin_text.specs.ShownLines.{named_line}
use Rattle.goblin_text.specs.Looks.{IsShort, LooksAtMost, NamesView, ReadsNames, line_looks, lines_in, name_looks}
use Rattle.goblin_text.specs.Looks.{names_looks, table_looks}

pub lines-append : (a b : List ℕ) → lines_in (a ++ b) ≡ lines_in a + lines_in b
lines-append [] b = omega arith
lines-append (x ∷ a) b = grind (arith, nat_tests, lines-append a b)

-- the lines of a text are its newlines
pub lines_filtered : (text : List ℕ) → lines_in text ≡ length (filter (λ b. b == 10) text)
lines_filtered [] = refl
lines_filtered (b ∷ text) = grind (arith, nat_tests, lines_filtered text)

pub looks-append : (a b : List ℕ) → names_looks (a ++ b) ≡ names_looks a + names_looks b
unfolding names_looks
looks-append a b = omega (arith, length-append a b, lines-append a b)

-- a line that ends with a name
pub named_line_looks : (head name : List ℕ) → name_looks + length name ≤ names_looks (named_line head name)
unfolding names_looks
named_line_looks head name = grind (arith, length-map, length-append {A = ℕ}, lines-append)

-- names are read, and then more names
pub more_names : (old mid new : NamesView) (a b most : ℕ)
    → a + b ≤ most → ReadsNames old mid 0 a → ReadsNames mid new 0 b → ReadsNames old new 0 most
more_names old mid new a b most l s t = grind arith

-- of a text the names so far were read, and the looks of the rest are left
pub record ReadSoFar (old new : NamesView) (all rest : List ℕ) : Type 0 where
  pub unchanged : new.bytes ≡ old.bytes
  pub looks : IsShort old.bytes → new.count + new.left + names_looks rest ≤ old.count + old.left + names_looks all
  pub looks_least : CountsAtLeast old.count 0 new.count

-- with one line more
pub more_read : (old mid new : NamesView) (all rest line next : List ℕ)
    → ReadSoFar old mid all rest → rest ≡ line ++ next → ReadsNames mid new 0 (names_looks line)
    → ReadSoFar old new all next
more_read old mid new all rest line next s e r = grind (arith, looks-append)

-- where a line failed
pub read_at_failure : (old mid new : NamesView) (all rest line next : List ℕ)
    → ReadSoFar old mid all rest → rest ≡ line ++ next → ReadsNames mid new 0 (names_looks line)
    → ReadsNames old new 0 (names_looks all)
read_at_failure old mid new all rest line next s e r =
    let more = more_read old mid new all rest line next s e r in
    record {
      unchanged = more.unchanged;
      looks = λ short. omega (arith, more.looks short);
      looks_least = more.looks_least;
    }

-- the parts of a file's text
parts_looks : (bytes : List ℕ) (header : Header) (sections : List SectionHeader) (parts : Parts)
    → names_looks (section_lines (strings_in bytes parts.strings) 0 sections)
    + names_looks (symbols_text bytes (vec_items parts.symbols))
    ≤ names_looks (parts_text bytes header sections parts)
parts_looks bytes header sections parts = search (rules, looks-append)

-- the names of sections are read
pub sections_in_parts : (old new : NamesView) (header : Header) (sections : List SectionHeader) (parts : Parts)
    → ReadsNames old new 0 (names_looks (section_lines (strings_in old.bytes parts.strings) 0 sections))
    → ReadsNames old new 0 (names_looks (parts_text old.bytes header sections parts))
sections_in_parts old new header sections parts s = grind (arith, parts_looks)

-- and then those of symbols
pub names_in_parts : (old mid new : NamesView) (header : Header) (sections : List SectionHeader) (parts : Parts)
    (symbols : List SymbolPart)
    → ReadsNames old mid 0 (names_looks (section_lines (strings_in old.bytes parts.strings) 0 sections))
    → symbols ≡ vec_items parts.symbols → ReadsNames mid new 0 (names_looks (symbols_text mid.bytes symbols))
    → ReadsNames old new 0 (names_looks (parts_text old.bytes header sections parts))
names_in_parts old mid new header sections parts symbols s are t = grind (arith, parts_looks)

-- ---- lines
-- each section has a line
section-count : (names : StringTable) (number : ℕ) (sections : List SectionHeader)
    → length sections ≤ lines_in (section_lines names number sections)
section-count names number [] = omega arith
section-count names number (s ∷ sections) = grind (arith, lines-append, section-count names (number + 1) sections)

lines_most : (bytes : List ℕ) (header : Header) (sections : List SectionHeader) (parts : Parts)
    → length sections + 1 ≤ lines_in (parts_text bytes header sections parts)
lines_most bytes header sections parts = grind (arith, lines-append, section-count)

-- the tables and the names of a file that is shown
pub looks_shown : (old mid new : NamesView) (bytes : List ℕ) (header : Header) (sections : List SectionHeader)
    (parts : Parts) (text : List ℕ)
    → text ≡ parts_text bytes header sections parts → LooksAtMost old mid (table_looks * (length sections + 1))
    → LooksAtMost mid new (names_looks (parts_text bytes header sections parts))
    → LooksAtMost old new (length text + line_looks * lines_in text)
unfolding names_looks
looks_shown old mid new bytes header sections parts text is s t = grind (arith, lines_most)
