use Rattle.goblin_c.proofs.build_id.build_id.Goals as goal

pub returns-in-None-default : goal.returns-in-None-default
returns-in-None-default c =
    let none = c.in-None-default.is-0 in
    rw (c.in-Ok.ensures, ← c.seek_in.ensures.0, none, ← c.seek_in.ensures.1 none) c.id_of_sections.ensures
