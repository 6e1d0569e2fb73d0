-- The string tables of a file, of which no entries are made.
use Rattle.goblin_text.proofs.Common.{◌≡◌, ℕ, List, ap, slice_range, Strict, Permissive, malformed, ◌>>=◌, arith}
use Rattle.goblin_text.proofs.Common.{both_ways, refuse_as, IsRange, strtab_of, table_of}
use Rattle.goblin.specs.declared.options.ParseMode.{ParseMode}

-- a table is that of its range's bytes
pub table_is : (mode : ParseMode) (file : List ℕ) (o n start end : ℕ)
    → IsRange mode file o n start end → strtab_of mode file o n 0 ≡ table_of mode (slice_range file start end) 0
unfolding strtab_of
table_is mode file o n start end range = ap (λ r. refuse_as malformed r >>= (λ bytes. table_of mode bytes 0)) range.is

-- a mode that isn't permissive is strict
pub is_strict : (mode : ParseMode) → ¬ (mode ≡ Permissive) → mode ≡ Strict
is_strict mode other = grind arith

pub ruleset tables = (both_ways, is_strict, table_is)
