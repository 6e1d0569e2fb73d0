-- Steps one after another. The first refusal is the result.
use Rattle.std.specs.Prelude.{ℕ, Bool, true, false, Option, Some, None, Result, Ok, Err}

-- the next step after a value, or the refusal
infixl 10 ◌>>=◌
abbrev pub ◌>>=◌ : {A B E : Type 0} → Result A E → (A → Result B E) → Result B E
(Ok x) >>= next = next x
(Err e) >>= next = Err e

-- a refusal if a test holds
abbrev pub refuse_if : {E : Type 0} → Bool → E → Result (Unit {0}) E
refuse_if true e = Err e
refuse_if false e = Ok tt

-- the value, or a refusal if there is none
abbrev pub or_refuse : {A E : Type 0} → Option A → E → Result A E
or_refuse (Some x) e = Ok x
or_refuse None e = Err e

-- the same result, with its refusal inside another one
abbrev pub refuse_as : {A E F : Type 0} → (E → F) → Result A E → Result A F
refuse_as within (Ok x) = Ok x
refuse_as within (Err e) = Err (within e)

-- the same result, with the size of its value in bytes
abbrev pub with_size : {A E : Type 0} → ℕ → Result A E → Result (A × ℕ) E
with_size size (Ok x) = Ok (x, size)
with_size size (Err e) = Err e
