use Rattle.goblin_headers.proofs.Common.{rules, ◌∙◌, sym, YieldsList-from_first, find_from_yields_List}
use Rattle.std.proofs.lemmas.Iterator.Adapters.{option_map_id}
use Rattle.goblin_headers.specs.ProgramHeaders.{loads}
use Rattle.goblin_headers.proofs.program_header.ProgramHeader.find_loaded.Goals as goal

pub returns : goal.returns
returns c =
    sym (option_map_id c.find.result)
    ∙ find_from_yields_List (loads c.args.address) _ _ c.find.result c.find.ensures.ran
    (YieldsList-from_first (λ x. x) (λ left. left) c.args.segments.now c.iter.ensures.value) (λ x b q k. search rules)
