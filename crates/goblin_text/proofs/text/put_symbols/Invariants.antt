-- The lines so far were put, and took no more looks than they may: each turn puts the line of one symbol.
use Rattle.goblin_text.proofs.Common.{◌≡◌, ◌+◌, ◌<◌, length, strings_in, symbol_lines}
use Prim.Native.Nat.{◌^◌}
use Rattle.goblin_text.proofs.TargetLemmas.{PutSoFar}
use Rattle.goblin_text.proofs.LineLooks.{ReadSoFar}
use Rattle.goblin_text.proofs.text.put_symbols.Given as goal

abbrev pub invariant-loop-number : goal.invariant-loop-number
invariant-loop-number g l =
    let target = g.T.Target in
    let old = l.initial.names in
    let strings = strings_in old.bytes l.part.strings in
    let all = symbol_lines strings l.part.section 0 l.part.table.symbols in
    let rest = symbol_lines strings l.part.section l.number l.symbol-iterator in
    record {
      reading : ReadSoFar old l.names all rest;
      count : l.number + length l.symbol-iterator < 2 ^ 64;
      put : PutSoFar (target.state l.initial.target) (target.state l.target) all rest;
      same_writer : target.writer_name l.target ≡ target.writer_name l.initial.target;
    }
