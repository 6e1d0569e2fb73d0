use Rattle.std.proofs.Common.{rules, FitsSigned, w32}
use Rattle.std.proofs.lemmas.Int.{to_z-of_z}
use Rattle.goblin_base.specs.FieldLaws.{puts_fields}
use Rattle.goblin_records.proofs.reloc32.RelaLaidOutEndian.put.Goals as goal

pub returns : goal.returns
returns c =
    let fits : FitsSigned w32 c.args.self.r_addend = search rules in
    puts_fields _ _ _ _ c.requires (cc (simp to_z-of_z at c.put_i32.ensures))
