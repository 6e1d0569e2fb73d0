-- Ranges of bytes.
use Rattle.goblin_text.proofs.Common.{◌≡◌, ◌∙◌, ℕ, ◌+◌, ◌-◌, ◌≤◌, List, take, drop, ap, arith, slice_range, drop-drop}
use Rattle.goblin_text.proofs.Common.{drop-take, get_or_past}
use Rattle.std.proofs.lemmas.Option.{unwrap_or-slice_get}

-- the rest of a range
pub rest_of_range : (bytes : List ℕ) (i j o : ℕ) → i + o ≤ j
    → drop o (slice_range bytes i j) ≡ slice_range bytes (i + o) j
rest_of_range bytes i j o l =
    let n : j - i ≡ o + (j - (i + o)) = omega arith in
    ap (λ k. drop o (take k (drop i bytes))) n ∙ drop-take o (j - (i + o)) (drop i bytes)
    ∙ ap (take (j - (i + o))) (drop-drop o i bytes)

-- a byte that may be missing
pub ruleset reads = (unwrap_or-slice_get, get_or_past)
