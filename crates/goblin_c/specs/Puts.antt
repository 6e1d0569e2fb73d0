-- Putting records into the bytes of a file: the bytes after, or the refusal.
use Rattle.goblin_base.specs.Fields.{Field}
use Rattle.goblin_c.specs.Common.{GoblinRefusal, Layout, Misfit}
use Rattle.goblin_c.specs.Results.{RefusalAt, Stored, refusal_converted}
use Rattle.std.specs.Prelude.{Err, List, None, Ok, Option, Result, Some, [], drop, if◌then◌else◌, length, nat_lt, take}
use Rattle.std.specs.Prelude.{ℕ, ◌*◌, ◌++◌, ◌+◌, ◌^◌, ◌∷◌, ◌≡◌, ◌⊎◌}

-- the bytes after others were written over them at an offset
abbrev pub with_bytes : List ℕ → ℕ → List ℕ → List ℕ
with_bytes bytes place own = take place bytes ++ own ++ drop (place + length own) bytes

-- the first of these fields from an offset on whose value is out of the range of its width; if none is, 0 after them
abbrev pub misfit_from : ℕ → List Field → Misfit
misfit_from offset [] = record { value = 0; offset = offset; item = 0 }
misfit_from offset (f ∷ fields) =
    if nat_lt f.value (256 ^ f.width) then misfit_from (offset + f.width) fields
    else record { value = f.value; offset = offset; item = 0 }

-- the refusal of a record at an offset for a value that doesn't fit its field
abbrev pub unfit : ℕ → Misfit → GoblinRefusal
unfit place m = record {
  kind = 24;
  item = m.item;
  first = m.value;
  second = 0;
  third = 0;
  fourth = 0;
  offset = place + m.offset;
}

-- the file after a put, or the refusal of the call
abbrev pub Put : Type 0
Put = Result (Option (List ℕ)) GoblinRefusal

-- what is put at an offset: these bytes, unless a value doesn't fit
abbrev pub put_unless : Option Misfit → ℕ → List ℕ → Put
put_unless None place bytes = Ok (Some bytes)
put_unless (Some misfit) place bytes = Err (unfit place misfit)

-- the same if a call that reads stores an item there: else its end, or its refusal
abbrev pub put_if_there : {X : Type 0} → Result (Option X) RefusalAt → Put → Put
put_if_there (Ok (Some x)) put = put
put_if_there (Ok None) put = Ok None
put_if_there (Err refusal) put = Err (refusal_converted refusal)

-- What a call that puts a record returns and changes: the result that is expected if the record fits, or the one for
-- its first value that doesn't.
abbrev pub Puts : Type 0 → Misfit → (Option Misfit → Put) → List ℕ → GoblinRefusal → ℕ → List ℕ → GoblinRefusal → Type 0
Puts Fits misfit expected old was status new why =
    (Fits × Stored (expected None) old was status new why)
    ⊎ (¬ Fits × Stored (expected (Some misfit)) old was status new why)

-- the bytes after the record with an index was put into a list of such records from an offset on
abbrev pub put_at : {R : Type 0} → Layout R → List ℕ → ℕ → ℕ → R → Option Misfit → Put
put_at l bytes start index x misfit =
    let place = start + index * l.size in put_unless misfit place (with_bytes bytes place (l.image x))

-- the other bytes of a file stay, before so many bytes at an offset and after them
pub record ChangesOnly (place size : ℕ) (old new : List ℕ) : Type 0 where
  pub same_length : length new ≡ length old
  pub before : take place new ≡ take place old
  pub after : drop (place + size) new ≡ drop (place + size) old

-- a result is a refusal of kind 24 that names a value and the offset of its field, of a record at an offset
abbrev pub IsUnfit : ℕ → Misfit → Put → Type 0
IsUnfit place misfit (Ok put) = ⊥
IsUnfit place misfit (Err why) =
    (why.kind ≡ 24) × (why.item ≡ misfit.item) × (why.first ≡ misfit.value) × (why.offset ≡ place + misfit.offset)
