use Rattle.goblin_c.proofs.Common.{drop, length, take, ◌+◌, ◌≡◌, ◌≤◌}
use Rattle.goblin_c.specs.BuildId.{first_build_id, holders_in, notes_of}
use Rattle.goblin_c.proofs.build_id.seek_in.Given as goal

abbrev pub invariant-loop-i : goal.invariant-loop-i
invariant-loop-i l =
    let bytes = l.file.bytes.now in
    let holders = holders_in l.all in
    let all = take l.most (notes_of 65536 bytes l.file.header holders) in
    let rest = take l.left (notes_of 65536 bytes l.file.header (drop l.i holders)) in
    record {
      within : l.left ≤ 65536;
      found : first_build_id bytes all ≡ first_build_id bytes rest;
      many : length all + l.left ≡ l.most + length rest;
    }
