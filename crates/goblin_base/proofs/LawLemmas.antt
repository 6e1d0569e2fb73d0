-- The laws of string tables.
--
-- If a strict walk succeeds, no whole piece is bad (`good_if_walked`): joining the strings and the strict look-up rest
-- on that. If strict mode accepts a range, permissive mode cuts out the same bytes (`range_alike`), and the table of a
-- range is that of its bytes: the laws of ranges rest on these two.
use Rattle.goblin_base.proofs.Common.{rules, common_steps, ◌≡◌, ℕ, ◌+◌, ◌-◌, ◌<◌, ◌≤◌, ⊎_elim, Bool, true, false, cond}
use Rattle.goblin_base.proofs.Common.{ltb, List, [], length, take, drop, map, refl, sym, ap, ◌∙◌, arith, Result, Ok}
use Rattle.goblin_base.proofs.Common.{Err, cases_lt, cases_Bool, cond-true, cond-false, lt-ltb, both_ways}
use Rattle.goblin_base.proofs.Common.{length-range_with_len, prefix_len-le-length, IsUtf8-from_is_utf8}
use Rattle.goblin_base.proofs.Common.{is_utf8-from_IsUtf8, range_with_len, is_ok, result_ok, ParseMode, Strict}
use Rattle.goblin_base.proofs.Common.{Permissive, text_of, entries, piece, piece_start, is_readable, is_bad_start}
use Rattle.goblin_base.proofs.Common.{first_bad, text_at, Refusal, StringTable, range_in, strtab_of, table_of, walked}
use Rattle.goblin_base.proofs.Common.{plain, zero, suc, eqb, ◌∷◌, ◌++◌, get_or, append_assoc, eqb-true, and_from}
use Rattle.goblin_base.proofs.Common.{and_right, drop_more, drop_all, take-append-drop, drop-drop}
use Rattle.goblin_base.proofs.Common.{get_or-range_with_len, fails_before_first, join_with_byte, piece_end}
use Rattle.goblin_base.proofs.Common.{entries_from}
use Rattle.goblin_base.specs.declared.error.Fault.{Fault}
use Rattle.goblin_base.specs.StrtabLaws.{TextIsUtf8, ClosedForm, JoinsAgain, PermissiveAccepts, StrictIsPermissive}
use Rattle.goblin_base.specs.StrtabLaws.{LookUpHasPlain, StrictLookUpIsPlain, DependsOnRange, RangesRefused}
use Rattle.goblin_base.specs.StrtabLaws.{StringsJoin, joined, ends_in}
use Rattle.goblin_base.proofs.PiecesLemmas.{start_to, start_of_start, end_from, at_end, inside_piece, piece_is_range}
use Rattle.goblin_base.proofs.PiecesLemmas.{start_next}
use Rattle.goblin_base.proofs.WalkLemmas.{entries_closed, no_entry_place, entries_more_readable, entries_past}
use Rattle.goblin_base.proofs.WalkLemmas.{bad_start_from}
use Rattle.goblin_base.proofs.StrtabLemmas.{text_at_readable, text_at_inside, strtab_in_range, walked_entries}

-- ---- the strings of a table, joined, are its bytes
-- If each whole piece is UTF-8, the entry at the start of one is that piece, and the next entry begins after its
-- delimiter. So the entries from a start on, joined, are the bytes from there on, by induction on the bytes that are
-- left (`joined_from`). After a delimiter at the end no entry begins: that one is what `tail` adds.

module _ (bytes : List ℕ) (d : ℕ) (good : first_bad bytes d ≡ length bytes) where
  no_bad : (k : ℕ) → k < length bytes → is_bad_start bytes d k ≡ false
  unfolding first_bad
  no_bad k h =
      let e : 0 + k ≡ k = omega arith in
      ap (is_bad_start bytes d) (sym e ∙ sym (get_or-range_with_len 0 (length bytes) k 0 h))
      ∙ fails_before_first (is_bad_start bytes d) (range_with_len 0 (length bytes)) k 0 (omega (arith, good))

  pub readable_start : (i : ℕ) → i < length bytes → piece_start bytes d i ≡ i → is_readable bytes d i ≡ true
  readable_start i l s = ⊎_elim (λ (r : is_readable bytes d i ≡ true). r)
      (λ (r : is_readable bytes d i ≡ false). absurd (both_ways _ (no_bad i l) (bad_start_from bytes d i s r)))
      (cases_Bool (is_readable bytes d i))

  abbrev tail : List ℕ
  tail = cond (ends_in d bytes) (d ∷ []) []

  abbrev join_from : ℕ → List ℕ
  join_from i = join_with_byte d (map text_of (entries_from bytes d i)) ++ tail

  -- the bytes from i on are the piece there and what follows it
  split_at_end : (i : ℕ) → i ≤ length bytes → drop i bytes ≡ piece bytes d i ++ drop (piece_end bytes d i) bytes
  split_at_end i h =
      let e = piece_end bytes d i in
      let s : i + (e - i) ≡ e = omega (arith, end_from bytes d i) in
      sym (take-append-drop (e - i) (drop i bytes))
      ∙ ap (λ x. take (e - i) (drop i bytes) ++ x) (drop-drop (e - i) i bytes ∙ ap (λ k. drop k bytes) s)
      ∙ ap (λ x. x ++ drop e bytes) (sym (piece_is_range bytes d i))

  delim_at_end : (i : ℕ)
      → i ≤ length bytes → piece_end bytes d i < length bytes
      → drop (piece_end bytes d i) bytes ≡ d ∷ drop (piece_end bytes d i + 1) bytes
  delim_at_end i h l =
      drop_more bytes (piece_end bytes d i) 0 l
      ∙ ap (λ x. x ∷ drop (piece_end bytes d i + 1) bytes) (eqb-true _ _ (at_end bytes d i h l))

  joined_from : (k i : ℕ)
      → length bytes - i ≤ k → i < length bytes → piece_start bytes d i ≡ i → join_from i ≡ drop i bytes
  joined_from zero i l m s = absurd (omega arith)
  joined_from (suc k) i l m s =
      let e = piece_end bytes d i in
      let r = readable_start i m s in
      let step = entries_more_readable bytes d i m r in
      let split = split_at_end i (omega arith) in
      ⊎_elim
      (λ (x : e + 1 < length bytes).
      let r' = readable_start (e + 1) x (start_next bytes d i (omega arith) (omega arith)) in
      let again = entries_more_readable bytes d (e + 1) x r' in
      let rest = joined_from k (e + 1) (omega (arith, end_from bytes d i)) x
      (start_next bytes d i (omega arith) (omega arith)) in
      ap (λ es. join_with_byte d (map text_of es) ++ tail) (step ∙ ap (λ es. (i, piece bytes d i) ∷ es) again)
      ∙ append_assoc (piece bytes d i)
      (d ∷ join_with_byte d
      (map text_of ((e + 1, piece bytes d (e + 1)) ∷ entries_from bytes d (piece_end bytes d (e + 1) + 1)))) tail
      ∙ ap (λ es. piece bytes d i ++ (d ∷ (join_with_byte d (map text_of es) ++ tail))) (sym again)
      ∙ ap (λ x. piece bytes d i ++ (d ∷ x)) rest
      ∙ ap (λ x. piece bytes d i ++ x) (sym (delim_at_end i (omega arith) (omega arith)))
      ∙ sym split)
      (λ (x : length bytes ≤ e + 1).
      let none = entries_past bytes d (e + 1) x in
      let one : join_from i ≡ piece bytes d i ++ tail =
      ap (λ es. join_with_byte d (map text_of es) ++ tail) (step ∙ ap (λ es. (i, piece bytes d i) ∷ es) none) in
      ⊎_elim
      (λ (y : e < length bytes).
      let last : length bytes - 1 ≡ e = omega arith in
      let is : ends_in d bytes ≡ true =
      and_from _ _ (lt-ltb 0 (length bytes) (omega arith))
      (ap (λ j. eqb (get_or bytes j 0) d) last ∙ at_end bytes d i (omega arith) y) in
      one ∙ ap (λ t. piece bytes d i ++ t)
      (cond-true _ _ _ is ∙ ap (λ t. d ∷ t) (sym (drop_all (e + 1) bytes x)) ∙ sym (delim_at_end i (omega arith) y))
      ∙ sym split)
      (λ (y : length bytes ≤ e).
      let is : ends_in d bytes ≡ false =
      and_right _ _ (inside_piece bytes d i (length bytes - 1) (omega arith) (omega arith)) in
      one ∙ ap (λ t. piece bytes d i ++ t) (cond-false _ _ _ is ∙ sym (drop_all e bytes y)) ∙ sym split)
      (cases_lt e (length bytes)))
      (cases_lt (e + 1) (length bytes))

  start_zero : piece_start bytes d 0 ≡ 0
  unfolding piece_start
  start_zero = refl

  pub joined_again : joined bytes d (map text_of (entries bytes d)) ≡ bytes
  joined_again = grind (arith, common_steps, joined_from, start_zero, entries_past)

-- ---- the laws

pub text_is_utf8 : TextIsUtf8
text_is_utf8 bytes = (IsUtf8-from_is_utf8 bytes, is_utf8-from_IsUtf8 bytes)

pub closed_form : ClosedForm
closed_form bytes d = entries_closed bytes d

-- if a strict walk succeeds, each piece is UTF-8
all_good : (b : Bool) (l n : ℕ) (e : Refusal) (es fs : List (ℕ × List ℕ))
    → b ≡ ltb l n → l ≤ n → ◌≡◌ {A = Result (List (ℕ × List ℕ)) Refusal} (cond b (Err e) (Ok es)) (Ok fs) → l ≡ n
all_good b l n e es fs is le h = grind arith

first_bad_within : (bytes : List ℕ) (d : ℕ) → first_bad bytes d ≤ length bytes
unfolding first_bad
first_bad_within bytes d = grind (arith, prefix_len-le-length, length-range_with_len)

good_if_walked : (bytes : List ℕ) (d : ℕ) (es : List (ℕ × List ℕ))
    → walked Strict bytes d ≡ Ok es → first_bad bytes d ≡ length bytes
unfolding walked
good_if_walked bytes d es h = all_good _ (first_bad bytes d) (length bytes) _ _ es refl (first_bad_within bytes d) h

pub joins_again : JoinsAgain
joins_again bytes d es h = grind (arith, walked_entries, joined_again, good_if_walked)

pub strings_join : StringsJoin
strings_join t strings raw h = grind (arith, joins_again)

-- ---- tables of ranges
abbrev whole : List ℕ → ℕ → StringTable
whole bytes d = record { bytes = bytes; delim = d; is_parsed = true }

permissive_table : (bytes : List ℕ) (d : ℕ) → table_of Permissive bytes d ≡ Ok (whole bytes d)
unfolding walked
permissive_table bytes d = refl

-- the table of a strict walk; each piece of its bytes is UTF-8
strict_table : (bytes : List ℕ) (d : ℕ) (t : StringTable)
    → table_of Strict bytes d ≡ Ok t → (whole bytes d ≡ t) × (first_bad bytes d ≡ length bytes)
strict_table bytes d t h = grind (arith, good_if_walked)

-- the range of a strict table
strict_range : (file : List ℕ) (o n d : ℕ) (t : StringTable)
    → strtab_of Strict file o n d ≡ Ok t
    → (r : List ℕ) × (range_in Strict file o n ≡ Ok r) × (table_of Strict r d ≡ Ok t)
unfolding strtab_of
strict_range file o n d t h = grind arith

range_alike : (file : List ℕ) (o n : ℕ) (r : List ℕ)
    → range_in Strict file o n ≡ Ok r → range_in Permissive file o n ≡ Ok r
unfolding range_in
range_alike file o n r h = grind arith

pub strict_is_permissive : StrictIsPermissive
strict_is_permissive file o n d t h =
    let range = strict_range file o n d t h in
    strtab_in_range Permissive file o n d range.0 (range_alike file o n range.0 range.1)
    ∙ permissive_table range.0 d
    ∙ ap Ok (strict_table range.0 d t range.2).0

some_range : (b c : Bool) (x y z : List ℕ)
    → (r : List ℕ) × (◌≡◌ {A = Result (List ℕ) Fault} (cond b (Ok x) (cond c (Ok y) (Ok z))) (Ok r))
some_range b c x y z = (cond b x (cond c y z), grind arith)

permissive_range : (file : List ℕ) (o n : ℕ) → (r : List ℕ) × (range_in Permissive file o n ≡ Ok r)
unfolding range_in
permissive_range file o n = search (rules, some_range)

pub permissive_accepts : PermissiveAccepts
permissive_accepts file o n d =
    let range = permissive_range file o n in
    ap is_ok (strtab_in_range Permissive file o n d range.0 range.1 ∙ permissive_table range.0 d)

-- ---- the look-up
readable_if_plain : (bytes : List ℕ) (d o : ℕ) (text : List ℕ)
    → plain bytes d o ≡ Ok text → (is_readable bytes d o ≡ true) × (piece bytes d o ≡ text)
unfolding is_readable
readable_if_plain bytes d o text h = grind arith

pub look_up_has_plain : LookUpHasPlain
look_up_has_plain t o text parsed l h = grind (arith, readable_if_plain, text_at_readable)

look_up_is_plain : (bytes : List ℕ) (d o : ℕ)
    → first_bad bytes d ≡ length bytes → o < length bytes → text_at bytes d o ≡ result_ok (plain bytes d o)
unfolding is_readable
look_up_is_plain bytes d o good l =
    grind (arith, text_at_readable, start_to, readable_start, start_of_start, text_at_inside, no_entry_place)

pub strict_look_up_is_plain : StrictLookUpIsPlain
strict_look_up_is_plain file o n d t at h l = grind (arith, strict_range, strict_table, look_up_is_plain)

-- ---- what a table depends on
range_depends : (mode : ParseMode) (a b : List ℕ) (o n : ℕ)
    → length a ≡ length b → take n (drop o a) ≡ take n (drop o b) → range_in mode a o n ≡ range_in mode b o n
unfolding range_in
range_depends mode a b o n len same = grind (arith, common_steps)

pub depends_on_range : DependsOnRange
unfolding strtab_of
depends_on_range mode a b o n d len same = grind (arith, range_depends)

pub ranges_refused : (file : List ℕ) (o n : ℕ) → RangesRefused file o n
unfolding range_in
ranges_refused file o n = grind arith
