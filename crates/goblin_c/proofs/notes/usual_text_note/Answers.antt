-- The name is ASCII, and so UTF-8: the note is stored as text (`notes_are_text`).
use Rattle.goblin_c.proofs.Common.{ap, arith, drop, length-take, refl, sym, take, ℕ, ◌+◌, ◌-◌, ◌∙◌, ◌≡◌}
use Rattle.goblin_c.proofs.NoteLemmas.{notes_are_text}
use Rattle.std.proofs.lemmas.Str.{IsUtf8-from_ascii, is_utf8-from_IsUtf8}
use Rattle.std.specs.Str.{is_utf8}
use Rattle.goblin_c.proofs.notes.usual_text_note.Goals as goal

pub returns-clause-value : goal.returns-clause-value
returns-clause-value c =
    let note = c.in_ok-note.note in
    let start = note.name.offset in
    let size : start + note.name.size - start ≡ note.name.size = omega arith in
    let own = ap (λ (k : ℕ). is_utf8 (take k (drop start c.args.bytes.now))) size in
    let text = is_utf8-from_IsUtf8 _ (IsUtf8-from_ascii _ (c.if-not-is_short_ascii.ensures.value refl)) in
    notes_are_text.text c.args.bytes.now c.args.header.now c.args.range.now c.args.alignment c.args.offset note
    c.in_ok-note.ensures.value (sym own ∙ text)

pub returns-then-not-is_short_ascii-clause-found : goal.returns-then-not-is_short_ascii-clause-found
returns-then-not-is_short_ascii-clause-found c =
    let start = c.in_ok-note.note.name.offset in
    let size : start + c.in_ok-note.note.name.size - start ≡ c.in_ok-note.note.name.size = omega arith in
    grind (
      arith,
      size,
      length-take,
      c.in_ok-note.ensures.value,
      c.if-not-is_short_ascii.ensures.found,
      c.if-not-is_short_ascii.true,
    )
