use Rattle.goblin_base.specs.Fields.{field}
use Rattle.goblin_c.proofs.Common.{drop, map, ◌*◌, ◌+◌, ◌≡◌, ◌≤◌}
use Rattle.goblin_c.specs.{Numbers.is_width, Puts.misfit_from}
use Rattle.std.specs.Prelude.{All, IsTrue}
use Rattle.goblin_c.proofs.misfit.first_misfit.Given as goal

abbrev pub invariant-loop-width : goal.invariant-loop-width
invariant-loop-width l =
    let left = drop l.width-index l.fields in
    record {
      widths : All (λ f. IsTrue (is_width f.0)) left;
      value : misfit_from l.start (map (λ f. field f.0 f.1) l.fields)
          ≡ misfit_from l.offset (map (λ f. field f.0 f.1) left);
      bound : l.offset ≤ l.start + 8 * l.width-index;
    }
