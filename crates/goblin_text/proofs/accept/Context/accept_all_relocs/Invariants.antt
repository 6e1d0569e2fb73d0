use Rattle.goblin_text.proofs.Common.{◌≡◌, ◌++◌, ◌>>=◌, ℕ, List, Ok, drop, relocs_text, each_shown, relocs_shown}
use Rattle.goblin_text.proofs.accept.Context.accept_all_relocs.Given as goal

-- the lines so far stand before what is shown of the sections that are left
abbrev pub invariant-loop-number : goal.invariant-loop-number
invariant-loop-number l =
    let context = l.self in
    let shows = relocs_shown l.file.bytes context.ctx l.is_mips64el in
    (lines : List ℕ) × (relocs_text l.parts.items ≡ relocs_text l.initial.parts.items ++ lines)
    × (each_shown shows 0 context.sections.now
    ≡ (each_shown shows l.number (drop l.number context.sections.now) >>= λ more. Ok (lines ++ more)))
