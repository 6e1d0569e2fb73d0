-- What each of several steps returned, if all of them succeeded.
use Rattle.goblin_base.proofs.Common.{◌≡◌, Bool, true, not, Option, Some, Result, Ok, ◌>>=◌, arith, refuse_as}
use Rattle.goblin_base.proofs.Common.{or_refuse, refuse_if}

-- the value of the first step, and the success of the steps after it
pub record Step {X Y E : Type 0} (first : Result X E) (next : X → Result Y E) (y : Y) : Type 0 where
  pub value : X
  pub is : first ≡ Ok value
  pub rest : next value ≡ Ok y

pub step : {X Y E : Type 0} (first : Result X E) (next : X → Result Y E) (y : Y)
    → (first >>= next) ≡ Ok y → Step first next y
step first next y is = grind arith

-- a test that did not refuse
pub passed : {E : Type 0} (test : Bool) (e : E) (u : Unit {0}) → refuse_if (not test) e ≡ Ok u → test ≡ true
passed test e u is = grind arith

-- a value that was there
pub found : {X E : Type 0} (option : Option X) (e : E) (x : X) → or_refuse option e ≡ Ok x → option ≡ Some x
found option e x is = grind arith

-- a value that was found inside another refusal
pub found_within : {X E F : Type 0} (within : E → F) (answer : Result X E) (x : X)
    → refuse_as within answer ≡ Ok x → answer ≡ Ok x
found_within within answer x is = grind arith
