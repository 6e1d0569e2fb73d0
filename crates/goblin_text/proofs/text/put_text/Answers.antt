-- A text takes no more looks than its names may: only sections and symbols have names, and their lines are parts of it.
use Rattle.goblin_text.proofs.Common.{arith, common_steps}
use Rattle.goblin_text.proofs.LineLooks.{names_in_parts, sections_in_parts}
use Rattle.goblin_text.proofs.text.put_text.Goals as goal

pub returns-in_err-put_sections-clause-reading : goal.returns-in_err-put_sections-clause-reading
returns-in_err-put_sections-clause-reading g c =
    let file = c.args.file.now in
    sections_in_parts c.args.names.now c.put_sections.new.names file.header file.sections.items file.parts
    c.put_sections.ensures.reading

pub returns-in_err-put_all_symbols-clause-reading : goal.returns-in_err-put_all_symbols-clause-reading
returns-in_err-put_all_symbols-clause-reading g c =
    let file = c.args.file.now in
    names_in_parts c.args.names.now c.put_sections.new.names c.put_all_symbols.new.names file.header
    file.sections.items file.parts c.as_slice.result.now c.put_sections.ensures.reading
    (grind (arith, common_steps)) c.put_all_symbols.ensures.reading

pub returns-clause-reading : goal.returns-clause-reading
returns-clause-reading g c =
    let file = c.args.file.now in
    names_in_parts c.args.names.now c.put_sections.new.names c.put_all_symbols.new.names file.header
    file.sections.items file.parts c.as_slice.result.now c.put_sections.ensures.reading
    (grind (arith, common_steps)) c.put_all_symbols.ensures.reading
