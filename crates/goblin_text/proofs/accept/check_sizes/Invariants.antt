use Rattle.goblin_text.proofs.Common.{◌≡◌, drop, sizes_checked}
use Rattle.goblin_text.proofs.accept.check_sizes.Given as goal

-- what was passed lies in the file
abbrev pub invariant-loop-section : goal.invariant-loop-section
invariant-loop-section l =
    sizes_checked l.opts.parse_mode l.len l.sections
    ≡ sizes_checked l.opts.parse_mode l.len (drop l.section-index l.sections)
