-- Symbol tables: which are accepted, and which symbols they hold (System V gABI, "Symbol Table").
use Rattle.std.specs.Prelude.{◌≡◌, ◌<◌, ◌≤◌, ◌+◌, ◌*◌, ◌-◌, ◌/◌, ◌^◌, min, ℕ, List, [], length, drop, take, nat_le}
use Rattle.std.specs.Prelude.{nat_lt, if◌then◌else◌, Result, Ok, Err}
use Rattle.goblin.specs.Common.{Ctx, Error, Strict, Permissive, records, Sym, sym_size, sym_of}
use Rattle.goblin_base.specs.declared.error.Error.TheVariants.{Malformed}
use Rattle.goblin_base.specs.declared.error.Fault.TheVariants.{SymtabOffset, TooManySymbols, SymtabPast}
use Rattle.goblin_base.specs.declared.options.ParseMode.{ParseMode}

-- a symbol table: its symbols, and the offset and the context that it was parsed with
pub record Symbols : Type 0 where
  pub symbols : List Sym
  pub offset : ℕ
  pub ctx : Ctx

-- the table of `count` symbols from an offset on
abbrev pub symbols_at : List ℕ → ℕ → ℕ → Ctx → Symbols
symbols_at bytes offset count ctx = record {
  symbols = records (sym_size ctx.container) (sym_of ctx.container ctx.le) count (drop offset bytes);
  offset = offset;
  ctx = ctx;
}

-- the table of `count` symbols from an offset on: the offset must be before the end, even for no symbols; the size of
-- all symbols must fit 64 bits, and the bytes from the offset on must hold them
abbrev pub symtab_of : List ℕ → ℕ → ℕ → Ctx → Result Symbols Error
symtab_of bytes offset count ctx =
    let requested = count * sym_size ctx.container in
    let available = length bytes - offset in
    if nat_le (length bytes) offset then Err (Malformed (SymtabOffset offset (length bytes)))
    else if nat_le (2 ^ 64) requested then Err (Malformed (TooManySymbols offset count))
    else if nat_lt available requested then Err (Malformed (SymtabPast requested available))
    else Ok (symbols_at bytes offset count ctx)

-- the same for a damaged file: at the end or past it there are no symbols, and at most as many as the bytes hold; only
-- a size that doesn't fit 64 bits is refused
abbrev pub permissive_symtab_of : List ℕ → ℕ → ℕ → Ctx → Result Symbols Error
permissive_symtab_of bytes offset count ctx =
    let size = sym_size ctx.container in
    let available = length bytes - offset in
    if nat_le (length bytes) offset then Ok (record { symbols = []; offset = offset; ctx = ctx })
    else if nat_le (2 ^ 64) (count * size) then Err (Malformed (TooManySymbols offset count))
    else Ok (symbols_at bytes offset (min count (available / size)) ctx)

-- the table by a mode
abbrev pub symtab_by : ParseMode → List ℕ → ℕ → ℕ → Ctx → Result Symbols Error
symtab_by Strict = symtab_of
symtab_by Permissive = permissive_symtab_of

-- the table of as many whole symbols as `size` bytes from an offset on hold
abbrev pub symtab_in : ParseMode → List ℕ → ℕ → ℕ → Ctx → Result Symbols Error
symtab_in mode bytes offset size ctx = symtab_by mode bytes offset (size / sym_size ctx.container) ctx

-- a table that the strict mode accepts is the same in the permissive one
abbrev pub PermissiveKeepsStrict : Type 0
PermissiveKeepsStrict =
    (bytes : List ℕ) (offset count : ℕ) (ctx : Ctx) (table : Symbols)
    → symtab_of bytes offset count ctx ≡ Ok table
    → permissive_symtab_of bytes offset count ctx ≡ Ok table

-- two files of the same length that agree on the part of a table's range that lies in them have the same table, or the
-- same refusal
abbrev pub DependsOnItsRange : Type 0
DependsOnItsRange =
    (mode : ParseMode) (bytes others : List ℕ) (offset count : ℕ) (ctx : Ctx)
    → length bytes ≡ length others
    → let size = sym_size ctx.container in
    let range = min count ((length bytes - offset) / size) * size in
    take range (drop offset bytes) ≡ take range (drop offset others)
    → symtab_by mode bytes offset count ctx ≡ symtab_by mode others offset count ctx

-- which tables are taken and refused, in plain numbers, and as what
pub record SymtabsRefused (bytes : List ℕ) (offset count : ℕ) (ctx : Ctx) : Type 0 where
  pub past : length bytes ≤ offset
      → symtab_of bytes offset count ctx ≡ Err (Malformed (SymtabOffset offset (length bytes)))
  pub many : (mode : ParseMode) → offset < length bytes → 2 ^ 64 ≤ count * sym_size ctx.container
      → symtab_by mode bytes offset count ctx ≡ Err (Malformed (TooManySymbols offset count))
  pub long : (requested : ℕ) → requested ≡ count * sym_size ctx.container → requested < 2 ^ 64
      → offset < length bytes → length bytes - offset < requested
      → symtab_of bytes offset count ctx ≡ Err (Malformed (SymtabPast requested (length bytes - offset)))
  pub fits : offset < length bytes → offset + count * sym_size ctx.container ≤ length bytes → length bytes < 2 ^ 64
      → symtab_of bytes offset count ctx ≡ Ok (symbols_at bytes offset count ctx)
