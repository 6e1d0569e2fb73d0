-- What laws say of derives: `==` compares whole values, and `clone` returns the value.
use Rattle.std.specs.Prelude.{◌≡◌, ◌↔◌, IsTrue}
use Rattle.std.specs.declared.clone.Clone as clone
use Rattle.std.specs.declared.cmp.PartialEq as eq

-- `clone` returns the value, and never fails
abbrev pub Clones : {R : Type 0} → clone.Ghosts R → Type 0
Clones {R = R} c = (x : R) → c.is_infallible x × ((y : R) → c.is_clone x y → y ≡ x)

-- `==` is true exactly if both values are the same; `clone` returns the value, and never fails
abbrev pub ComparesAndClones : {R : Type 0} → eq.Ghosts R → clone.Ghosts R → Type 0
ComparesAndClones {R = R} e c = ((x y : R) → IsTrue (e.eq x y) ↔ (x ≡ y)) × Clones c
