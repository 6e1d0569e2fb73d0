use Rattle.goblin_records.proofs.Mips64el.{turned}
use Rattle.goblin_records.proofs.reloc64.mips64el_r_info.Goals as goal

pub returns : goal.returns
returns c = turned c.args.info c.r_sym.result c.r_type.result c.swap_bytes.result c.r_info.result c.r_type.ensures
    c.r_sym.ensures c.swap_bytes.ensures c.r_info.ensures
