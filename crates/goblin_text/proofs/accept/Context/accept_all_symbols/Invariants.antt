use Rattle.goblin_text.proofs.Common.{◌≡◌, ◌++◌, ◌*◌, ◌>>=◌, ℕ, List, Ok, drop, symbols_text, each_shown, symbols_shown}
use Rattle.goblin_text.specs.Looks.{ReadsNames, table_looks}
use Rattle.goblin_text.proofs.accept.Context.accept_all_symbols.Given as goal

-- the lines so far stand before what is shown of the sections that are left, each of which asked for one table at most
abbrev pub invariant-loop-number : goal.invariant-loop-number
invariant-loop-number l =
    let context = l.self in
    let bytes = l.initial.file.bytes in
    let shows = symbols_shown context.opts.now.parse_mode bytes context.ctx context.sections.now in
    record {
      reading : ReadsNames l.initial.file l.file 0 (table_looks * l.number);
      shown : (lines : List ℕ) × (symbols_text bytes l.parts.items ≡ symbols_text bytes l.initial.parts.items ++ lines)
          × (each_shown shows 0 context.sections.now
          ≡ (each_shown shows l.number (drop l.number context.sections.now) >>= λ more. Ok (lines ++ more)));
    }
