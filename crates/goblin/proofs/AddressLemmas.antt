-- The symbol that is found for an address is the one of the law, and so is that of the definition.
--
-- How near a symbol is makes one number, 0 if it is no candidate (`score`). A search keeps the first symbol with the
-- highest such number (`IsFound`, `one_more`), and that one is what the law says (`found_is`). What the law says is
-- what the definition finds, too (`at_is`), so the law has one answer only.
use Rattle.std.proofs.Common.{◌≡◌, ◌≤◌, ◌<◌, ◌+◌, ◌*◌, ◌&&◌, ◌||◌, ℕ, zero, suc, Bool, true, false, ltb, arith, ◌==◌}
use Rattle.std.proofs.Common.{if◌then◌else◌, List, [], ◌∷◌, length, slice_get, Option, Some, None, rules, inl, inr}
use Rattle.std.proofs.Common.{refl, sym, ap, subst, ◌∙◌, position}
use Rattle.std.proofs.lemmas.Bool.{and_parts, and_from, false_from_ne_true, false≢true, eqb-true, eq-eqb}
use Rattle.std.proofs.lemmas.Bool.Decides.{nat_tests}
use Rattle.std.proofs.lemmas.List.Folds.{list_any_at, list_any_none}
use Rattle.std.proofs.lemmas.Option.{slice_get_within, slice_get-get_or, slice_get_cases, get_or_from_slice_get}
use Rattle.std.specs.List.{position_or_len}
use Rattle.std.specs.Option.{option_or}
use Rattle.goblin_headers.specs.declared.section_header.SectionHeader.{SectionHeader}
use Rattle.goblin_records.specs.declared.sym.Sym.{Sym}
use Rattle.goblin.specs.Addresses.{IsBelowInSection, IsSymbolAt, NoneContains, SymbolAtComesFirst, contains, found_at}
use Rattle.goblin.specs.Addresses.{is_candidate, is_highest, is_nearer, is_nearest, reaches, symbol_at, taken}

-- ---- items of lists by their indices

-- below its length a list has an item
pub some-within : {X : Type 0} (items : List X) (i : ℕ) → i < length items → None ≡ slice_get items i → ⊥
some-within [] i h e = absurd (omega arith)
some-within (x ∷ items) i h e = let is = slice_get-get_or (x ∷ items) i x h in cc

-- ---- a search for the highest score through the symbols, one after another
module _ (score : Sym → ℕ) (symbols : List Sym) where
  -- the score of what is found, or 0
  abbrev top : Option (ℕ × Sym) → ℕ
  top None = 0
  top (Some found) = score found.1

  -- this is found among the first i: the first with the highest score, unless all are 0
  pub record IsFirst (i : ℕ) (found : Option (ℕ × Sym)) : Type 0 where
    pub there : (at : ℕ × Sym) → found ≡ Some at → (at.0 < i) × (slice_get symbols at.0 ≡ Some at.1) × (0 < score at.1)
    pub high : (k : ℕ) (other : Sym) → k < i → slice_get symbols k ≡ Some other → score other ≤ top found
    pub early : (at : ℕ × Sym) → found ≡ Some at → (k : ℕ) (other : Sym)
        → k < at.0 → slice_get symbols k ≡ Some other → score other < score at.1

  step : (i : ℕ) (s : Sym) (found : Option (ℕ × Sym)) (test : Bool)
      → slice_get symbols i ≡ Some s → test ≡ ltb (top found) (score s) → IsFirst i found
      → IsFirst (i + 1) (if test then Some (i, s) else found)
  step i s found test got higher so = grind arith

  -- there is one
  found_up_to : (i : ℕ) → i ≤ length symbols → (found : Option (ℕ × Sym)) × IsFirst i found
  found_up_to zero all = (None, search rules)
  found_up_to (suc i) all =
      let before = found_up_to i (omega arith) in
      let more : i + 1 ≡ suc i = omega arith in
      elim (slice_get_cases symbols i).1 [
        | inl here ↦ (_, rw more at (step i here.0 before.0 _ here.2 refl before.1))
        | inr past ↦ absurd (omega (arith, past.0))
      ]

-- ---- the first symbol that passes a test, and a highest one
-- the first symbol that passes a test, or the length if none does
passes_first : (passes : Sym → Bool) (symbols : List Sym) (i : ℕ)
    → i ≤ length symbols → ((k : ℕ) (s : Sym) → slice_get symbols k ≡ Some s → passes s ≡ true → i ≤ k)
    → ((s : Sym) → slice_get symbols i ≡ Some s → passes s ≡ true) → position_or_len passes symbols ≡ i
passes_first passes [] i l first here = omega arith
passes_first passes (s ∷ more) zero l first here = rw (here s refl) refl
passes_first passes (s ∷ more) (suc i) l first here =
    let rest = passes_first passes more i (omega arith) (λ k x g p. omega (arith, first (suc k) x g p)) here in
    rw (false_from_ne_true (passes s) (λ p. omega (arith, first 0 s refl p))) (omega (arith, rest))

position_is : (passes : Sym → Bool) (symbols : List Sym) (i : ℕ) (s : Sym)
    → slice_get symbols i ≡ Some s → passes s ≡ true
    → ((k : ℕ) (other : Sym) → slice_get symbols k ≡ Some other → passes other ≡ true → i ≤ k)
    → position passes symbols ≡ Some i
position_is passes symbols i s got here first =
    let within = slice_get_within symbols i s got in
    let at = passes_first passes symbols i (omega (arith, within)) first (λ x g. grind arith) in
    grind (arith, nat_tests)

no_position : (passes : Sym → Bool) (symbols : List Sym)
    → ((k : ℕ) (s : Sym) → slice_get symbols k ≡ Some s → passes s ≡ true → ⊥) → position passes symbols ≡ None
no_position passes symbols none = grind (arith, passes_first, slice_get_within)

module _ (test : Sym → Bool) (symbols : List Sym) where
  highest_is : (s : Sym)
      → test s ≡ true
      → ((k : ℕ) (other : Sym) → slice_get symbols k ≡ Some other → test other ≡ true → other.st_value ≤ s.st_value)
      → is_highest test symbols s ≡ true
  highest_is s passes high = grind (arith, list_any_none, slice_get-get_or)

  none_higher : (k : ℕ) (s other : Sym)
      → slice_get symbols k ≡ Some other → test other ≡ true → is_highest test symbols s ≡ true
      → other.st_value ≤ s.st_value
  none_higher k s other g passes is =
      let within = slice_get_within symbols k other g in
      let there = list_any_at (λ x. test x && ltb s.st_value x.st_value) symbols k s within in
      grind (arith, nat_tests, there, get_or_from_slice_get symbols k other s g)

-- ---- how near symbols are
-- those that contain the address are nearer than all others; of those the higher one is nearer, and of others equally
-- high the one of size 0
abbrev rank : ℕ → Bool → Bool → Bool → ℕ → ℕ
rank address false inside empty value = 0
rank address true true empty value = 2 * address + 3 + value
rank address true false true value = 2 * value + 2
rank address true false false value = 2 * value + 1

module _ (address : ℕ) (sections : List SectionHeader) (e_type : ℕ) where
  abbrev fits : Sym → Bool
  fits s = is_candidate address sections e_type s

  abbrev near : Sym → Bool → ℕ
  near s fit = rank address fit (reaches address s) (s.st_size == 0) s.st_value

  abbrev score : Sym → ℕ
  score s = near s (fits s)

  abbrev pub IsFound : List Sym → ℕ → Option (ℕ × Sym) → Type 0
  IsFound symbols i found = IsFirst score symbols i found

  not_above : (s : Sym) → fits s ≡ true → s.st_value ≤ address
  not_above s is = grind (arith, nat_tests)

  nearer : (s other : Sym) (b c : Bool)
      → (b ≡ true → s.st_value ≤ address) → (c ≡ true → other.st_value ≤ address) → 0 < near other c
      → (b && is_nearer address s other) ≡ ltb (near other c) (near s b)
  nearer s other b c low other_low has = grind (arith, nat_tests)

  nearest : (s : Sym) (b : Bool) (found : Option (ℕ × Sym))
      → (b ≡ true → s.st_value ≤ address) → ((at : ℕ × Sym) → found ≡ Some at → 0 < score at.1)
      → (b && is_nearest address s found) ≡ ltb (top score [] found) (near s b)
  nearest s b None low has = grind (arith, nat_tests)
  nearest s b (Some at) low has = nearer s at.1 b _ low (not_above at.1) (has at refl)

  pub one_more : (symbols : List Sym) (i : ℕ) (s : Sym) (found next : Option (ℕ × Sym))
      → slice_get symbols i ≡ Some s → next ≡ taken address sections e_type i s found → IsFound symbols i found
      → IsFound symbols (i + 1) next
  one_more symbols i s found next got is so =
      rw is (step score symbols i s found _ got (nearest s _ found (not_above s) (λ at e. (so.there at e).2)) so)

  -- ---- candidates: those that contain the address, those in a section that holds it, and no others
  fits_if : (s : Sym) → contains address s ≡ true → fits s ≡ true
  fits_if s c = grind (arith, nat_tests)

  fits_in : (s : Sym) → IsBelowInSection address sections e_type s → fits s ≡ true
  fits_in s lies = rw (lies.below, lies.there) (grind (arith, nat_tests, lies.named, lies.has))

  lies_in : (s : Sym) (section : Option SectionHeader)
      → slice_get sections s.st_shndx ≡ section → fits s ≡ true → reaches address s ≡ false
      → IsBelowInSection address sections e_type s
  lies_in s None there fit out = absurd (grind (arith, nat_tests))
  lies_in s (Some section) there fit out = grind (arith, nat_tests)

  inside : (s : Sym) → contains address s ≡ true → score s ≡ 2 * address + 3 + s.st_value
  inside s c = rw (fits_if s c) (grind (arith, nat_tests))

  outside : (s : Sym) → fits s ≡ true → reaches address s ≡ false
      → score s ≡ rank address true false (s.st_size == 0) s.st_value
  outside s fit out = rw (fit, out) refl

  found_fits : (s : Sym) (b : Bool) → 0 < near s b → b ≡ true
  found_fits s b has = grind (arith, nat_tests)

  low : (v : ℕ) (e : Bool) → v ≤ address → rank address true false e v ≤ 2 * address + 2
  low v e l = grind (arith, nat_tests)

  module _ (symbols : List Sym) where
    below : NoneContains address symbols → (k : ℕ) (s : Sym)
        → slice_get symbols k ≡ Some s → IsBelowInSection address sections e_type s
        → score s ≡ rank address true false (s.st_size == 0) s.st_value
    below none k s g lies = outside s (fits_in s lies) (rw lies.below at (none k s g))

    lies_by : NoneContains address symbols → (k : ℕ) (s : Sym)
        → slice_get symbols k ≡ Some s → fits s ≡ true → IsBelowInSection address sections e_type s
    lies_by none k s g fit = lies_in s _ refl fit (grind (arith, nat_tests, none k s g))

    -- ---- what is found is what the law says
    high : (found : Option (ℕ × Sym)) (k : ℕ) (s : Sym)
        → IsFound symbols (length symbols) found → slice_get symbols k ≡ Some s → score s ≤ top score symbols found
    high found k s so g = so.high k s (slice_get_within symbols k s g) g

    none_if : (found : Option (ℕ × Sym))
        → IsFound symbols (length symbols) found → top score symbols found ≤ 2 * address + 2
        → NoneContains address symbols
    none_if found so l k s g =
        false_from_ne_true (contains address s) (λ c. omega (arith, high found k s so g, inside s c, l))

    module _ (found : ℕ × Sym) (so : IsFound symbols (length symbols) (Some found)) where
      abbrev best : Sym
      best = found.1

      fit : fits best ≡ true
      fit = found_fits best _ (so.there found refl).2

      none_out : reaches address best ≡ false → NoneContains address symbols
      none_out out =
          none_if (Some found) so
          (rw (outside best fit out) (low best.st_value (best.st_size == 0) (not_above best fit)))

      final : (x e : Bool)
          → reaches address best ≡ x → (best.st_size == 0) ≡ e
          → IsSymbolAt address sections e_type symbols (if x || e then Some found.0 else None)
      final true e is size =
          let here : contains address best ≡ true = grind (arith, nat_tests, fit) in (
            best,
            (so.there found refl).1,
            inl (record {
              inside = here;
              high = λ k other g c. omega (arith, high _ k other so g, inside other c, inside best here);
              early = λ k other g c same. grind (arith, so.early found refl k other, inside other c, inside best here);
            }),
          )
      final false true is size = (
        best,
        (so.there found refl).1,
        inr (record {
          none = none_out is;
          below = lies_in best _ refl fit is;
          empty = eqb-true best.st_size 0 size;
          high = λ k other g lies.
              let scored = below (none_out is) k other g lies in
              grind (arith, nat_tests, rw (scored, outside best fit is) at (high _ k other so g));
          early = λ k other g lies same none.
              let scored = below (none_out is) k other g lies in
              grind (arith, nat_tests, so.early found refl k other, scored, outside best fit is);
        }),
      )
      final false false is size = record {
        none = none_out is;
        higher = λ k other g lies none.
            let scored = below (none_out is) k other g lies in
            let least = high _ k other so g in
            let own = outside best fit is in
            (found.0, best, (so.there found refl).1, lies_in best _ refl fit is, grind (arith, nat_tests));
      }

    found_is : (found : Option (ℕ × Sym))
        → IsFound symbols (length symbols) found → IsSymbolAt address sections e_type symbols (found_at address found)
    found_is None so = record {
      none = none_if None so (omega arith);
      higher = λ k s g lies empty.
          let scored = below (none_if None so (omega arith)) k s g lies in
          absurd (grind (arith, nat_tests, high None k s so g, scored));
    }
    found_is (Some found) so = final found so _ _ refl refl

    -- ---- and so is what the definition finds
    abbrev is_label : Sym → Bool
    is_label s = is_highest fits symbols s && s.st_size == 0

    -- where none contains the address, the labels decide
    by_labels : (answer : Option ℕ)
        → NoneContains address symbols → position is_label symbols ≡ answer
        → symbol_at address sections e_type symbols ≡ answer
    unfolding symbol_at
    by_labels answer none is =
        ap (λ (found : Option ℕ). option_or found (position is_label symbols))
        (no_position (is_highest (contains address) symbols) symbols
        (λ k s g p. false≢true (sym (none k s g) ∙ (and_parts (contains address s) _ p).0)))
        ∙ is

    at_is : (answer : Option ℕ)
        → IsSymbolAt address sections e_type symbols answer → symbol_at address sections e_type symbols ≡ answer
    unfolding symbol_at
    at_is (Some i) (s, got, inl first) =
        ap (λ (found : Option ℕ). option_or found (position is_label symbols))
        (position_is _ symbols i s got (highest_is (contains address) symbols s first.inside first.high)
        (λ k other g is.
        let c = (and_parts (contains address other) _ is).0 in
        let least = none_higher (contains address) symbols i other s got first.inside is in
        first.early k other g c (omega (arith, first.high k other g c, least))))
    at_is (Some i) (s, got, inr first) =
        let fit = fits_in s first.below in
        let lies = lies_by first.none in
        by_labels _ first.none (position_is is_label symbols i s got
        (and_from _ _ (highest_is fits symbols s fit (λ k other g b. first.high k other g (lies k other g b)))
        (eq-eqb s.st_size 0 first.empty))
        (λ k other g is.
        let parts = and_parts (is_highest fits symbols other) _ is in
        let there = lies k other g (and_parts (fits other) _ parts.0).0 in
        let least = none_higher fits symbols i other s got fit parts.0 in
        first.early k other g there (omega (arith, first.high k other g there, least)) (eqb-true _ 0 parts.1)))
    at_is None has =
        by_labels _ has.none (no_position is_label symbols (λ k s g is.
        let parts = and_parts (is_highest fits symbols s) _ is in
        let lies = lies_by has.none k s g (and_parts (fits s) _ parts.0).0 in
        let more = has.higher k s g lies (eqb-true _ 0 parts.1) in
        omega (arith, more.4, none_higher fits symbols more.0 s more.1 more.2 (fits_in more.1 more.3) parts.0)))

  pub found_all : (symbols : List Sym) (i : ℕ) (found : Option (ℕ × Sym))
      → i ≡ length symbols → IsFound symbols i found
      → found_at address found ≡ symbol_at address sections e_type symbols
  found_all symbols i found all so =
      sym (at_is symbols _ (found_is symbols found (subst (λ (n : ℕ). IsFound symbols n found) all so)))

pub symbol_at_comes_first : SymbolAtComesFirst
symbol_at_comes_first address sections e_type symbols answer = (
  λ is.
      let end = found_up_to (score address sections e_type) symbols (length symbols) (omega arith) in
      let law = found_is address sections e_type symbols end.0 end.1 in
      subst (IsSymbolAt address sections e_type symbols) (sym (at_is address sections e_type symbols _ law) ∙ is) law,
  at_is address sections e_type symbols answer,
)

pub ruleset searched = (one_more, found_all, some-within)
