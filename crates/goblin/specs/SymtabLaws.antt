-- Laws of symbol tables.
use Rattle.std.proofs.Common.{◌≡◌, ◌<◌, ◌≤◌, ◌*◌, ◌-◌, ◌/◌, ◌^◌, min, ℕ, Bool, false, nat_le, nat_lt}
use Rattle.std.proofs.Common.{if◌then◌else◌, List, length, take, drop, Result, Ok, Err, refl, ap, arith}
use Rattle.std.proofs.Math.Nat.{le-div_iff_mul-le, min-eq_left}
use Rattle.goblin.specs.Common.{nat_tests, Ctx, Error, Strict, Permissive, records-agree, sym_size, sym_of}
use Rattle.goblin_records.specs.SymLaws.{sym_laws}
use Rattle.goblin.specs.Symtab.{Symbols, symbols_at, PermissiveKeepsStrict, DependsOnItsRange}

-- a symbol takes some bytes
positive : (ctx : Ctx) → 0 < sym_size ctx.container
positive ctx = (sym_laws ctx.container ctx.le).size_positive

-- as many as are asked for, if the bytes hold all of them
min_fits : (count size available : ℕ) → 0 < size → count * size ≤ available → min count (available / size) ≡ count
min_fits count size available some room =
    let both = le-div_iff_mul-le {k = size} {x = count} {y = available} some in min-eq_left (both.1 room)

pub permissive_keeps_strict : PermissiveKeepsStrict
permissive_keeps_strict bytes offset count ctx table is = grind (arith, nat_tests, min_fits, positive ctx)

-- results after a test are the same, if they are when the test passes
after_test : (test : Bool) (e : Error) (a b : Result Symbols Error)
    → (test ≡ false → a ≡ b) → (if test then Err e else a) ≡ (if test then Err e else b)
after_test test e a b h = grind (arith, nat_tests)

-- symbols from an offset on depend only on their range
symbols-agree : (bytes others : List ℕ) (offset count : ℕ) (ctx : Ctx)
    → take (count * sym_size ctx.container) (drop offset bytes)
    ≡ take (count * sym_size ctx.container) (drop offset others)
    → symbols_at bytes offset count ctx ≡ symbols_at others offset count ctx
symbols-agree bytes others offset count ctx same =
    ap (λ all. let table : Symbols = record { symbols = all; offset = offset; ctx = ctx } in table)
    (records-agree (sym_size ctx.container) (sym_of ctx.container ctx.le) count (drop offset bytes)
    (drop offset others) same)

pub depends_on_its_range : DependsOnItsRange
depends_on_its_range Strict bytes others offset count ctx long same =
    let size = sym_size ctx.container in
    let available = length bytes - offset in
    rw (← long)
    (after_test (nat_le (length bytes) offset) _ _ _ λ inside.
    after_test (nat_le (2 ^ 64) (count * size)) _ _ _ λ small.
    after_test (nat_lt available (count * size)) _ _ _ λ fits.
    let all : min count (available / size) ≡ count = grind (arith, nat_tests, min_fits, positive ctx) in
    ap Ok (symbols-agree bytes others offset count ctx (rw all at same)))
depends_on_its_range Permissive bytes others offset count ctx long same =
    let size = sym_size ctx.container in
    let available = length bytes - offset in
    let table = symbols-agree bytes others offset (min count (available / size)) ctx same in
    rw (← long, table) refl
