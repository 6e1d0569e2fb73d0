-- The options that the program's words ask for.
use Rattle.std.specs.Prelude.{ℕ, Bool, true, false, if◌then◌else◌, List, [], ◌∷◌, map, Option, None, Some, Result, Ok}
use Rattle.std.specs.Prelude.{Err, vec_items, String, string_bytes, codes}
use Rattle.goblin_text.specs.Common.{bytes_eq, Error, ParseMode, Strict, Permissive}
use Rattle.std.specs.Global.{Vec}
use Rattle.std.specs.declared.alloc.Global.{Global}
use Rattle.goblin.specs.declared.options.ParseOptions.{ParseOptions}

-- damaged parts of a file are passed over
abbrev pub is_permissive : ParseMode → Bool
is_permissive Strict = false
is_permissive Permissive = true

-- the options that words ask for: strict ones for no word, permissive ones for the one word `permissive`
abbrev pub asked : List (List ℕ) → Option ParseOptions
asked [] = Some (record { parse_mode = Strict })
asked (word ∷ []) = if bytes_eq word (codes "permissive") then Some (record { parse_mode = Permissive }) else None
asked (word ∷ (other ∷ words)) = None

-- the options that the arguments after the program's name ask for: none where they can't be had
abbrev pub wanted : Result (Vec (String Global)) Error → Option ParseOptions
wanted (Ok words) = asked (map string_bytes (vec_items words))
wanted (Err e) = None
