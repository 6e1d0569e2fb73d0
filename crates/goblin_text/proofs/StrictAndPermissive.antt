-- The text in the two modes.
use Rattle.goblin_text.proofs.Common.{◌≡◌, ◌+◌, ℕ, List, [], ◌∷◌, slice_get, Option, Result, Ok, refl, Header}
use Rattle.goblin_text.proofs.Common.{SectionHeader, Strict, Permissive, Refusal, ◌>>=◌, refuse_as, each_shown, arith}
use Rattle.goblin_text.proofs.Common.{sizes_checked, symbols_shown}
use Rattle.goblin.specs.declared.container.Ctx.{Ctx}
use Rattle.goblin.specs.SectionHeaders.{linked}
use Rattle.goblin.specs.StrtabLaws.{StrictIsPermissive}
use Rattle.std.specs.Prelude.{slice_get}
use Rattle.goblin_text.specs.Shown.{file_shown, sections_of, shown, section_strings, strings_at, PermissiveShowsStrict}

-- the second result is the first one, if that is a value
abbrev pub Keeps : {A E : Type 0} → Result A E → Result A E → Type 0
Keeps {A} r s = (a : A) → r ≡ Ok a → s ≡ Ok a

same : {A E : Type 0} (r : Result A E) → Keeps r r
same r a h = h

-- steps keep values, where each of them does
steps : {A B E : Type 0} (r s : Result A E) (f g : A → Result B E)
    → Keeps r s → ((a : A) → Keeps (f a) (g a)) → Keeps (r >>= f) (s >>= g)
steps r s f g first next b h = grind arith

within : {A E F : Type 0} (inside : E → F) (r s : Result A E)
    → Keeps r s → Keeps (refuse_as inside r) (refuse_as inside s)
within inside r s first a h = grind arith

-- a permissive check passes
passes : (len : ℕ) (sections : List SectionHeader) → sizes_checked Permissive len sections ≡ Ok tt
passes len [] = refl
passes len (s ∷ sections) = passes len sections

sections : (bytes : List ℕ) (h : Header) (ctx : Ctx)
    → Keeps (sections_of Strict bytes h ctx) (sections_of Permissive bytes h ctx)
unfolding sections_of
sections bytes h ctx = grind (arith, passes)

strings_here : StrictIsPermissive
    → (bytes : List ℕ) (s : Option SectionHeader)
    → Keeps (section_strings Strict bytes s) (section_strings Permissive bytes s)
strings_here strtabs bytes s = grind arith

strings : StrictIsPermissive → (bytes : List ℕ) (found : List SectionHeader) (index : ℕ)
    → Keeps (strings_at Strict bytes found index) (strings_at Permissive bytes found index)
unfolding strings_at
strings strtabs bytes found index = strings_here strtabs bytes (linked index (slice_get found index))

symbols : StrictIsPermissive
    → (bytes : List ℕ) (ctx : Ctx) (found : List SectionHeader) (number : ℕ) (s : SectionHeader)
    → Keeps (symbols_shown Strict bytes ctx found number s) (symbols_shown Permissive bytes ctx found number s)
unfolding symbols_shown
symbols strtabs bytes ctx found number s = grind (arith, strings)

each : (f g : ℕ → SectionHeader → Result (List ℕ) Refusal)
    → ((number : ℕ) (s : SectionHeader) → Keeps (f number s) (g number s))
    → (number : ℕ) (found : List SectionHeader) → Keeps (each_shown f number found) (each_shown g number found)
each f g keeps number [] = same _
each f g keeps number (s ∷ found) = grind (arith, each f g keeps (number + 1) found)

file : StrictIsPermissive → (bytes : List ℕ) (h : Header) (ctx : Ctx) (found : List SectionHeader)
    → Keeps (file_shown Strict bytes h ctx found) (file_shown Permissive bytes h ctx found)
unfolding file_shown
file strtabs bytes h ctx found = grind (arith, strings, each, symbols)

-- where the strict text is there, the permissive one is the same
pub permissive_shows_strict : StrictIsPermissive → PermissiveShowsStrict
unfolding shown
permissive_shows_strict strtabs bytes = grind (arith, sections, file)
