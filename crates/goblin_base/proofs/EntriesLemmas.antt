-- Entries stored as places.
--
-- A stored place stands for the bytes from it up to one before the next place. A place is added where the last entry
-- closed, so the entries before it stay the same (`between_push`), and in the walk it is the next entry of the
-- definition (`walked_text`, `walked_empty`).
use Rattle.goblin_base.proofs.Common.{common_steps, ◌≡◌, ℕ, zero, suc, ◌+◌, ◌-◌, ◌<◌, ◌≤◌, true, false, take, drop}
use Rattle.goblin_base.proofs.Common.{List, [], ◌∷◌, ◌++◌, length, get_or, refl, sym, ap, subst, ◌∙◌, arith}
use Rattle.goblin_base.proofs.Common.{slice_range, places_of, text_of, IsRising, is_utf8-from_IsUtf8, piece_end}
use Rattle.goblin_base.proofs.Common.{is_readable, entries_from, entries_between, IsWalkedTo}
use Rattle.goblin_base.specs.Entries.{next_of, IsText, AreTexts}
use Rattle.goblin_base.proofs.WalkLemmas.{entries_more_bad, found_more, text_from_readable, entry_of_text}

module _ (bytes : List ℕ) where
  pub places_between : (ps : List ℕ) (c : ℕ) → places_of (entries_between bytes ps c) ≡ ps
  places_between [] c = refl
  places_between (p ∷ ps) c = ap (λ l. p ∷ l) (places_between ps c)

  pub length-between : (ps : List ℕ) (c : ℕ) → length (entries_between bytes ps c) ≡ length ps
  length-between [] c = refl
  length-between (p ∷ ps) c = ap suc (length-between ps c)

  -- the entry at k ends before the place after it, or before the closing place
  pub text_between : (ps : List ℕ) (c k : ℕ)
      → k < length ps
      → text_of (get_or (entries_between bytes ps c) k (0, []))
      ≡ slice_range bytes (get_or ps k 0) (get_or ps (k + 1) c - 1)
  text_between [] c k h = absurd (omega arith)
  text_between (p ∷ []) c zero h = refl
  text_between (p ∷ q ∷ ps) c zero h = refl
  text_between (p ∷ ps) c (suc k) h = grind (arith, text_between ps c k (omega arith))

  pub is_text_at : (ps : List ℕ) (c k : ℕ)
      → AreTexts bytes ps c → k < length ps → IsText bytes (get_or ps k 0) (get_or ps (k + 1) c)
  is_text_at [] c k a h = absurd (omega arith)
  is_text_at (p ∷ []) c zero a h = a.0
  is_text_at (p ∷ q ∷ ps) c zero a h = a.0
  is_text_at (p ∷ ps) c (suc k) a h = let e : suc k + 1 ≡ suc (k + 1) = omega arith in
      subst (λ j. IsText bytes (get_or ps k 0) (get_or (p ∷ ps) j c)) (sym e) (is_text_at ps c k a.1 (omega arith))

  -- the same, from what was read of the places
  pub entry_between : (ps qs : List ℕ) (c k f n : ℕ) (es : List (ℕ × List ℕ))
      → entries_between bytes ps c ≡ es → qs ≡ ps → f ≡ get_or qs k 0 → n ≡ get_or qs (k + 1) c → AreTexts bytes ps c
      → k < length es
      → IsText bytes f n × (slice_range bytes f (n - 1) ≡ text_of (get_or es k (0, [])))
  entry_between ps qs c k f n es v e x y a h = grind (arith, length-between, is_text_at, text_between)

  above_first : (p : ℕ) (ps : List ℕ) (c : ℕ) → AreTexts bytes (p ∷ ps) c → (k : ℕ) → k < length ps → p < get_or ps k 0
  above_first p [] c a k h = absurd (omega arith)
  above_first p (q ∷ ps) c a zero h = a.0.rising
  above_first p (q ∷ ps) c a (suc k) h = omega (arith, a.0.rising, above_first q ps c a.1 k (omega arith))

  pub places_rise : (ps : List ℕ) (c : ℕ) → AreTexts bytes ps c → IsRising ps
  places_rise [] c a i j l h = absurd (omega arith)
  places_rise (p ∷ ps) c a i zero l h = absurd (omega arith)
  places_rise (p ∷ ps) c a zero (suc j) l h = above_first p ps c a j (omega arith)
  places_rise (p ∷ ps) c a (suc i) (suc j) l h = places_rise ps c a.1 i j (omega arith) (omega arith)

  next_of-push : (ps : List ℕ) (q c : ℕ) → next_of (ps ++ q ∷ []) c ≡ next_of ps q
  next_of-push ps q c = grind arith

  -- one more entry begins where the last one closed
  pub between_push : (ps : List ℕ) (q c : ℕ)
      → entries_between bytes (ps ++ q ∷ []) c ≡ entries_between bytes ps q ++ (q, slice_range bytes q (c - 1)) ∷ []
  between_push [] q c = refl
  between_push (p ∷ ps) q c = grind (arith, between_push ps q c)

  pub entries_push : (ps : List ℕ) (q c : ℕ) → AreTexts bytes ps q → IsText bytes q c → AreTexts bytes (ps ++ q ∷ []) c
  entries_push [] q c a e = (e, tt)
  entries_push (p ∷ ps) q c a e = (subst (IsText bytes p) (sym (next_of-push ps q c)) a.0, entries_push ps q c a.1 e)

-- no entries stand at no places
pub none_between : (bytes ps : List ℕ) (c : ℕ) → length ps ≡ 0 → entries_between bytes ps c ≡ []
none_between bytes ps c e = grind (arith, common_steps)

pub ruleset between = (length-between, places_between, none_between)

-- one more place, in the walk
module _ (bytes : List ℕ) (d : ℕ) where
  walked_more : (ps qs : List ℕ) (p q : ℕ)
      → qs ≡ ps ++ p ∷ [] → IsText bytes p q
      → entries_from bytes d p ≡ (p, slice_range bytes p (q - 1)) ∷ entries_from bytes d q → IsWalkedTo bytes d ps p
      → IsWalkedTo bytes d qs q
  walked_more ps qs p q e k step w = grind (arith, entries_push, found_more, between_push)

  empty_range : (p : ℕ) → slice_range bytes p (p + 1 - 1) ≡ []
  empty_range p = let e : p + 1 - 1 - p ≡ 0 = omega arith in ap (λ n. take n (drop p bytes)) e

  empty_entry : (p : ℕ) → p < length bytes → IsText bytes p (p + 1)
  empty_entry p h = grind (arith, is_utf8-from_IsUtf8)

  -- an entry with the empty text, if the piece isn't readable
  pub walked_empty : (ps qs : List ℕ) (p : ℕ)
      → p < length bytes → is_readable bytes d p ≡ false → qs ≡ ps ++ p ∷ [] → IsWalkedTo bytes d ps p
      → IsWalkedTo bytes d qs (p + 1)
  walked_empty ps qs p h r e =
      walked_more ps qs p (p + 1) e (empty_entry p h)
      (entries_more_bad bytes d p h r ∙ ap (λ t. (p, t) ∷ entries_from bytes d (p + 1)) (sym (empty_range p)))

  text_entry : (p end : ℕ)
      → p ≤ end → end ≤ length bytes → end ≡ piece_end bytes d p → is_readable bytes d p ≡ true
      → IsText bytes p (end + 1)
  text_entry p end l m e r = grind (arith, text_from_readable)

  -- an entry whose text is the whole piece
  pub walked_text : (ps qs : List ℕ) (p end : ℕ)
      → p < length bytes → p ≤ end → end ≤ length bytes → end ≡ piece_end bytes d p → is_readable bytes d p ≡ true
      → qs ≡ ps ++ p ∷ [] → IsWalkedTo bytes d ps p
      → IsWalkedTo bytes d qs (end + 1)
  walked_text ps qs p end h l m e r same =
      let s : end + 1 - 1 ≡ end = omega arith in
      walked_more ps qs p (end + 1) same (text_entry p end l m e r)
      (entry_of_text bytes d p end _ h e (ap (slice_range bytes p) s) r)

  pub walked_none : IsWalkedTo bytes d [] 0
  walked_none = record { texts = tt; found = refl }
