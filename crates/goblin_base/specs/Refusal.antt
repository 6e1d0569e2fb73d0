-- Why a call refuses.
use Rattle.std.specs.Prelude.{◌≡◌, ◌≢◌, ℕ, List, Result, Ok, Err}
use Rattle.goblin_base.specs.declared.error.Error.{Error}
use Rattle.goblin_base.specs.declared.error.Error.TheVariants.{Malformed, BadMagic, Scroll, BufferTooShort, Memory}
use Rattle.goblin_base.specs.declared.error.Fault.{Fault}
use Rattle.goblin_base.specs.declared.scroll.Error.{Error as Misplaced}
use Rattle.goblin_base.specs.declared.scroll.Error.TheVariants.{TooBig, BadOffset, BadInput}

-- an error without where its texts lie in memory
pub data Refusal : Type 0 where
  malformed : Fault → Refusal
  bad_magic : ℕ → Refusal
  too_big : ℕ → ℕ → Refusal
  bad_offset : ℕ → Refusal
  bad_input : ℕ → List ℕ → Refusal
  buffer_too_short : ℕ → List ℕ → Refusal
  out_of_memory : Refusal

-- the refusal of bytes at an offset
abbrev pub misplaced : Misplaced → Refusal
misplaced (TooBig size len) = too_big size len
misplaced (BadOffset offset) = bad_offset offset
misplaced (BadInput size msg) = bad_input size msg.now

-- the refusal of an error
abbrev pub refusal_of : Error → Refusal
refusal_of (Malformed fault) = malformed fault
refusal_of (BadMagic magic) = bad_magic magic
refusal_of (Scroll e) = misplaced e
refusal_of (BufferTooShort count item) = buffer_too_short count item.now
refusal_of (Memory e) = out_of_memory

-- a result, seen by `view`, is the expected one, unless memory ran out
abbrev pub Gives : {X Y : Type 0} → (X → Y) → Result X Error → Result Y Refusal → Type 0
Gives view (Ok x) expected = expected ≡ Ok (view x)
Gives view (Err e) expected = refusal_of e ≢ out_of_memory → expected ≡ Err (refusal_of e)

-- a result, seen by `view`, is the expected one, an error too
abbrev pub Returns : {X Y : Type 0} → (X → Y) → Result X Error → Result Y Refusal → Type 0
Returns view (Ok x) expected = expected ≡ Ok (view x)
Returns view (Err e) expected = expected ≡ Err (refusal_of e)

-- a result is an error with this refusal
abbrev pub Refuses : {X : Type 0} → Result X Error → Refusal → Type 0
Refuses (Ok x) refusal = ⊥
Refuses (Err e) refusal = refusal_of e ≡ refusal
