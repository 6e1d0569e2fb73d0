use Rattle.std.proofs.Common.{rules, ◌≡◌, true, refl, arith}
use Rattle.goblin_records.proofs.Mips64el.{meant_parts}
use Rattle.goblin_records.proofs.reloc.Reloc.meant.Goals as goal

pub returns : goal.returns
returns c =
    let through : c.args.is_mips64el ≡ true = search rules in
    let parts = meant_parts c.args.self.r_sym c.args.self.r_type c.r_info-read.result c.mips64el_r_info-info.result
    (omega arith) (rw c.from.ensures at c.r_info-read.ensures) c.mips64el_r_info-info.ensures in
    rw (through, c.r_sym.ensures, c.r_type.ensures, parts.0, parts.1) refl
