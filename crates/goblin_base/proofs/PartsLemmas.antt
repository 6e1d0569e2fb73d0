-- Texts in parts.
use Rattle.goblin_base.proofs.Common.{arith, common_steps, ◌≡◌, ◌+◌, ◌<◌, ℕ, List, [], ◌∷◌, ◌++◌, length, get_or, take}
use Rattle.goblin_base.proofs.Common.{refl, ap, ◌∙◌, take_more, Facts, parts_text, part_text}
use Rattle.goblin_base.specs.declared.texts.Part.{Part}

parts_text_push : (e : Facts) (ps : List Part) (p : Part)
    → parts_text e (ps ++ p ∷ []) ≡ parts_text e ps ++ part_text e p
parts_text_push e [] p = refl
parts_text_push e (q ∷ []) p = refl
parts_text_push e (q ∷ r ∷ rest) p = grind (arith, common_steps, parts_text_push e (r ∷ rest) p)

-- the text of one part more
pub parts_text_more : (e : Facts) (ps : List Part) (i : ℕ) (d : Part)
    → i < length ps → parts_text e (take (i + 1) ps) ≡ parts_text e (take i ps) ++ part_text e (get_or ps i d)
parts_text_more e ps i d h = ap (parts_text e) (take_more ps i d h) ∙ parts_text_push e (take i ps) (get_or ps i d)
