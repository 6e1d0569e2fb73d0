-- An attempt to read a piece as UTF-8: what is known at each byte.
use Rattle.goblin_base.proofs.Common.{◌≡◌, ℕ, ◌+◌, ◌<◌, ◌≤◌, true, false, eqb, List, ◌∷◌, length, get_or, max, sym, ap}
use Rattle.goblin_base.proofs.Common.{◌∙◌, subst, ⊎_elim, arith, Some, None, cases_lt, both_ways, false_from_ne_true}
use Rattle.goblin_base.proofs.Common.{IsUtf8-from_is_utf8, is_utf8-from_IsUtf8, Awaited, awaits_first, after_byte}
use Rattle.goblin_base.proofs.Common.{piece_end, piece, is_readable, IsDamaged, IsScan, scan_end, Fault}
use Rattle.goblin_base.proofs.Utf8Lemmas.{Completes, any_bounds, IsUtf8-from_Completes, Completes-from_IsUtf8}
use Rattle.goblin_base.proofs.Utf8Lemmas.{CompletesFrom, IsInner, Steps, StepsTo, steps}
use Rattle.goblin_base.proofs.WalkLemmas.{bad_within}
use Rattle.goblin_base.proofs.PiecesLemmas.{end_is, end_same, end_from, at_end, piece_more, piece_at_end}

module _ (bytes : List ℕ) (d : ℕ) where
  completes_if_readable : (q : ℕ) → is_readable bytes d q ≡ true → Completes 0 0x80 0xbf (piece bytes d q)
  unfolding is_readable
  completes_if_readable q r = Completes-from_IsUtf8 0x80 0xbf _ (IsUtf8-from_is_utf8 _ r)

  readable_if_completes : (q lo hi : ℕ) → Completes 0 lo hi (piece bytes d q) → is_readable bytes d q ≡ true
  unfolding is_readable
  readable_if_completes q lo hi v = is_utf8-from_IsUtf8 _ (IsUtf8-from_Completes lo hi _ v)

  -- an attempt from o has come to p, in the state s:
  --
  --     o                      p               delimiter
  --     | read, and all may    | s says what   |
  --     | come there           | must follow   |
  pub record IsScanned (o p : ℕ) (s : Awaited) : Type 0 where
    pub from : o ≤ p
    pub within : p ≤ length bytes
    pub none : (k : ℕ) → o ≤ k → k < p → eqb (get_or bytes k 0) d ≡ false
    pub inner : IsInner s
    pub begun : p ≡ o → s.more ≡ 0
    -- the piece at o is UTF-8 if its rest completes s; only then is the piece at any offset before p
    pub back : CompletesFrom s (piece bytes d p) → is_readable bytes d o ≡ true
    pub forth : (q : ℕ) → o ≤ q → q < p → is_readable bytes d q ≡ true → CompletesFrom s (piece bytes d p)

  pub scan_starts : (o : ℕ) → o ≤ length bytes → IsScanned o o awaits_first
  scan_starts o h = grind (arith, readable_if_completes)

  piece_at_byte : (p : ℕ)
      → p < length bytes → eqb (get_or bytes p 0) d ≡ false → piece bytes d p ≡ get_or bytes p 0 ∷ piece bytes d (p + 1)
  piece_at_byte p l n = ⊎_elim
      (λ (m : p < piece_end bytes d p). piece_more bytes d p m l)
      (λ (m : piece_end bytes d p ≤ p).
      let e : piece_end bytes d p ≡ p = omega (arith, end_from bytes d p) in
      absurd (both_ways _ n
      (ap (λ x. eqb (get_or bytes x 0) d) (sym e) ∙ at_end bytes d p (omega arith) (omega arith))))
      (cases_lt p (piece_end bytes d p))

module _ {bytes : List ℕ} {d o p : ℕ} {s : Awaited} where
  pub scan_steps : {t : Awaited}
      → p < length bytes → eqb (get_or bytes p 0) d ≡ false → after_byte s (get_or bytes p 0) ≡ Some t
      → IsScanned bytes d o p s
      → IsScanned bytes d o (p + 1) t
  scan_steps {t = t} l n e h =
      let b = get_or bytes p 0 in
      let split = piece_at_byte bytes d p l n in
      let step : Steps s b t = subst (StepsTo s b) e (steps s b h.inner) in
      let from = h.from in
      record {
        from = omega arith;
        within = omega arith;
        none = λ k x y.
            ⊎_elim (λ (z : k < p). h.none k x z)
            (λ (z : p ≤ k). let same : k ≡ p = omega arith in ap (λ j. eqb (get_or bytes j 0) d) same ∙ n)
            (cases_lt k p);
        inner = step.inner;
        begun = λ z. absurd (omega arith);
        back = λ v. h.back (subst (CompletesFrom s) (sym split) (step.back _ v));
        forth = λ q x y r. ⊎_elim
            (λ (z : q < p). step.forth _ (subst (CompletesFrom s) split (h.forth q x z r)))
            (λ (z : p ≤ q). let same : q ≡ p = omega arith in
            step.excludes _
            (subst (Completes 0 0x80 0xbf) split
            (completes_if_readable bytes d p (ap (is_readable bytes d) (sym same) ∙ r))))
            (cases_lt q p);
      }

  -- if the byte at p may not come there, neither the piece at o nor any that begins before p is UTF-8
  pub scan_faults : p < length bytes → eqb (get_or bytes p 0) d ≡ false → after_byte s (get_or bytes p 0) ≡ None
      → IsScanned bytes d o p s
      → IsScan bytes d o (Fault (max p (o + 1)))
  scan_faults l n e h =
      let b = get_or bytes p 0 in
      let split = piece_at_byte bytes d p l n in
      let from = h.from in
      let no : CompletesFrom s (piece bytes d p) → ⊥ =
      λ v. subst (StepsTo s b) e (steps s b h.inner) _ (subst (CompletesFrom s) split v) in
      record {
        none = λ q x y. false_from_ne_true _ (λ (r : is_readable bytes d q ≡ true). ⊎_elim
            (λ (z : q < p). no (h.forth q x z r))
            (λ (z : p ≤ q). let same : q ≡ p = omega arith in let start : p ≡ o = omega arith in
            no (subst (λ k. Completes k s.least s.most (piece bytes d p)) (sym (h.begun start))
            (any_bounds 0x80 0xbf s.least s.most _
            (completes_if_readable bytes d p (ap (is_readable bytes d) (sym same) ∙ r)))))
            (cases_lt q p));
        further = omega arith;
        within = omega arith;
      }

  -- at its end the piece is UTF-8 if no byte is missing; otherwise no rest of it is
  pub scan_ends : (p < length bytes → eqb (get_or bytes p 0) d ≡ true) → IsScanned bytes d o p s
      → IsScan bytes d o (scan_end s p)
  scan_ends there h = grind (arith, end_is, piece_at_end)

-- what an attempt that fails says of the bytes, which it didn't change
pub attempt_fault : {bytes seen : List ℕ} {end i next : ℕ} (d : ℕ)
    → seen ≡ bytes → piece_end bytes d i ≡ end → i ≤ end → end ≤ length bytes → IsDamaged seen d i next
    → IsDamaged bytes d i next × (next ≤ end) × (piece_end bytes d next ≡ end)
attempt_fault {bytes = bytes} {i = i} {next = next} d same ends l m h =
    let found : IsDamaged bytes d i next = subst (λ bs. IsDamaged bs d i next) same h in
    let until = bad_within bytes d i next found.within found.none (omega arith) in (
      found,
      omega (arith, until, ends),
      end_same bytes d i next (omega arith) (omega (arith, found.further)) until ∙ ends,
    )
