-- The text of a refusal that C has.
use Rattle.goblin.specs.SectionNames.{section_flag_name}
use Rattle.goblin_base.specs.declared.texts.Kind.{Kind}
use Rattle.goblin_c.specs.Common.{Facts, GoblinRefusal, INVALID_UTF8, PROGRAM_HEADERS, Refusal, SECTION_HEADERS}
use Rattle.goblin_c.specs.Common.{bad_input, buffer_too_short, facts_text, kind_with, refusal_text}
use Rattle.goblin_c.specs.Results.{RefusalAt, refusal_converted}
use Rattle.std.specs.Fmt.{decimal}
use Rattle.std.specs.Prelude.{Bool, List, None, Option, Some, [], codes, if◌then◌else◌, nat_lt, not, ℕ, ⊤, ◌&&◌, ◌++◌}
use Rattle.std.specs.Prelude.{◌==◌, ◌^◌, ◌≡◌, ◌⊎◌}

-- the name of one flag of a section, of which one that isn't among the low 32 has none, as 0 has
abbrev pub flag_name : ℕ → List ℕ
flag_name flag = section_flag_name (if nat_lt flag (2 ^ 32) then flag else 0)

-- the item with a number, and the empty text for any other number
abbrev pub item_text : ℕ → List ℕ
item_text item =
    if item == INVALID_UTF8 then codes "invalid utf8"
    else if item == SECTION_HEADERS then codes "section headers"
    else if item == PROGRAM_HEADERS then codes "program headers"
    else []

-- a refusal of a kind that C has, as the library's kind, numbers and item
abbrev pub facts_from : GoblinRefusal → Kind → Facts
facts_from why kind = record {
  kind = kind;
  item = item_text why.item;
  first = why.first;
  second = why.second;
  third = why.third;
  overflow = not (why.fourth == 0);
}

-- a refusal has a number that doesn't fit its field; the library's own refusal of this kind has none
abbrev pub is_misfit : GoblinRefusal → Bool
is_misfit why = why.kind == 24 && not (why.first == 0)

-- this number, and the offset of the field
abbrev pub misfit_text : GoblinRefusal → List ℕ
misfit_text why = codes ": " ++ decimal why.first ++ codes " at offset " ++ decimal why.offset

-- the library's text, followed by them
abbrev pub with_misfit : GoblinRefusal → List ℕ → List ℕ
with_misfit why text = if is_misfit why then text ++ misfit_text why else text

-- the text of a refusal that C has: it is empty if the number is no kind's
abbrev pub text_from : GoblinRefusal → Option Kind → List ℕ
text_from why (Some kind) = with_misfit why (facts_text (facts_from why kind))
text_from why None = []

abbrev pub converted_text : GoblinRefusal → List ℕ
converted_text why = text_from why (kind_with why.kind)

-- a refusal names no item, or one that has a number
abbrev pub NamesKnown : Refusal → Type 0
NamesKnown (bad_input size msg) = msg ≡ codes "invalid utf8"
NamesKnown (buffer_too_short count item) = (item ≡ codes "section headers") ⊎ (item ≡ codes "program headers")
NamesKnown _ = ⊤

-- a refusal converted for C has the text of the refusal
abbrev pub TextIsSame : Type 0
TextIsSame =
    (why : RefusalAt)
    → NamesKnown why.refusal → converted_text (refusal_converted why) ≡ refusal_text why.refusal
