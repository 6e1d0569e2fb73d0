-- The ends of runs that are stored of a file's blocks.
use Rattle.goblin_text.proofs.Common.{common_steps, ◌≡◌, ℕ, zero, suc, [], ◌∷◌, ◌+◌, ◌<◌, ◌≤◌, set, replicate, List}
use Rattle.goblin_text.proofs.Common.{length, get_or, arith, nat_tests, Kind, AreRunEnds, IsRunEnd, IsRun, unknown}

-- no end is stored at first
pub none_known : (kind : Kind) (bytes : List ℕ) (n : ℕ) → AreRunEnds kind bytes (replicate n 0)
unfolding AreRunEnds
none_known kind bytes n = grind (arith, common_steps)

-- of so many blocks no more than all are unknown
pub unknown_most : (n : ℕ) (ends : List ℕ) → unknown n ends ≤ n
unfolding unknown
unknown_most zero ends = omega arith
unknown_most (suc n) [] = omega arith
unknown_most (suc n) (end ∷ ends) = grind (arith, nat_tests, unknown_most n ends)

-- an end that is stored
pub end_known : (kind : Kind) (bytes ends : List ℕ) (k : ℕ)
    → AreRunEnds kind bytes ends → k < length ends → 0 < get_or ends k 0 → IsRunEnd kind bytes k (get_or ends k 0)
unfolding AreRunEnds
end_known kind bytes ends k h l some = h k l some

-- one end more
pub end_more : (kind : Kind) (bytes ends : List ℕ) (i n : ℕ)
    → AreRunEnds kind bytes ends → i < length ends → IsRunEnd kind bytes i n → AreRunEnds kind bytes (set ends i n)
unfolding AreRunEnds
end_more kind bytes ends i n h m t = grind (arith, common_steps)

-- and so one unknown less
pub unknown_less : (n : ℕ) (ends : List ℕ) (i v : ℕ)
    → i < n → i < length ends → get_or ends i 0 ≡ 0 → 0 < v → unknown n (set ends i v) + 1 ≤ unknown n ends
unfolding unknown
unknown_less zero ends i v l m z p = absurd (omega arith)
unknown_less (suc n) [] i v l m z p = absurd (omega arith)
unknown_less (suc n) (end ∷ ends) zero v l m z p = grind (arith, nat_tests)
unknown_less (suc n) (end ∷ ends) (suc i) v l m z p =
    omega (arith, unknown_less n ends i v (omega arith) (omega arith) z p)

-- a run goes on to where the run ends that goes on from it
pub end_after : (kind : Kind) (bytes : List ℕ) (first k end : ℕ)
    → first ≤ k → IsRun kind bytes first k → IsRunEnd kind bytes k end → IsRunEnd kind bytes first end
end_after kind bytes first k end l run e = grind arith

-- the end of a run is that of each run in it
pub end_later : (kind : Kind) (bytes : List ℕ) (first k end : ℕ)
    → first ≤ k → k ≤ end → IsRunEnd kind bytes first end → IsRunEnd kind bytes k end
end_later kind bytes first k end l m e = grind arith
