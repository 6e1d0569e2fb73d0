-- What of a text was put into a target, and what is left of it.
use Rattle.goblin_text.proofs.Common.{common_steps, ◌≡◌, ◌++◌, ◌∷◌, ℕ, List, [], Option, append_assoc, get_or, set}
use Rattle.goblin_text.proofs.Common.{append-nil, arith, length, min, refl, take, Appends-trans, append_known-grown}
use Rattle.goblin_text.proofs.Common.{take_all, Appends, Keeps, append_known, State, held, Stops, parts_text_more}

-- of a text the lines so far were put, and the rest is left
pub record PutSoFar (old new : State) (all rest : List ℕ) : Type 0 where
  pub lines : List ℕ
  pub appends : Appends old.contents new.contents lines
  pub are : all ≡ lines ++ rest
  pub heeded : new.reported_error ≡ old.reported_error
  pub stopped : Stops old new

pub more_put : (a b c : State) (all line rest next : List ℕ)
    → PutSoFar a b all rest → rest ≡ line ++ next
    → Appends b.contents c.contents line × (c.reported_error ≡ b.reported_error) × Stops b c
    → PutSoFar a c all next
more_put a b c all line rest next w e p = grind (arith, Appends-trans, append_assoc)

-- an empty room before a writer
pub held-none : (known : Option (List ℕ)) → append_known known [] ≡ known
held-none known = grind (arith, append-nil)

pub appends_kept : (a b c : Option (List ℕ)) (text : List ℕ) → Keeps a b → Appends b c text → Appends a c text
appends_kept a b c text p q = grind arith

-- what filled the room was written
pub passed_on : (a b : Option (List ℕ)) (room : List ℕ) (filled m : ℕ)
    → length room ≡ m → Appends a b (take (min filled m) room) → Keeps (held a room filled) b
unfolding held
passed_on a b room filled m e p = grind (arith, common_steps)

-- nothing fills the room
pub emptied : (b : Option (List ℕ)) (room : List ℕ) (filled : ℕ) → filled ≡ 0 → held b room filled ≡ b
unfolding held
emptied b room filled e = rw e (held-none b)

-- a text fills more of the room
pub added : (a b : Option (List ℕ)) (old new : List ℕ) (filled more : ℕ) (text : List ℕ)
    → Keeps a (held b old filled) → take more new ≡ take filled old ++ text → Appends a (held b new more) text
unfolding held
added a b old new filled more text p e = append_known-grown a b (take filled old) (take more new) text p e

-- a single byte in the place of another
pub set_single : (xs ys : List ℕ) → length xs ≡ 1 → length ys ≡ 1 → set xs 0 (get_or ys 0 0) ≡ ys
set_single [] ys e f = absurd (omega (arith, e))
set_single (x ∷ xs) [] e f = absurd (omega (arith, f))
set_single (x ∷ []) (y ∷ []) e f = refl
set_single (x ∷ (z ∷ xs)) (y ∷ ys) e f = absurd (omega (arith, e))
set_single (x ∷ []) (y ∷ (z ∷ ys)) e f = absurd (omega (arith, f))

pub ruleset put_on = (appends_kept, emptied)

pub ruleset parts_put = (parts_text_more, take_all)
