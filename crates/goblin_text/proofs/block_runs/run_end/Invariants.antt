use Rattle.goblin_text.proofs.Common.{slice_index, AreRunEnds, blocks, unknown, ◌≡◌, ℕ, ◌+◌, ◌-◌, ◌<◌, ◌≤◌}
use Rattle.goblin_text.proofs.block_runs.run_end.Given as goal

-- the end is stored of the blocks so far, and isn't known of the others
abbrev pub invariant-loop-block : goal.invariant-loop-block
invariant-loop-block l = let n = blocks l.fn.view.bytes in record {
  from : l.first ≤ l.block;
  known : AreRunEnds l.fn.kind l.fn.view.bytes l.ends;
  fewer : unknown n l.ends + (l.block - l.first) ≤ unknown n l.initial.ends;
  rest : (k : ℕ) → l.block ≤ k → k < l.found.read → slice_index l.ends k ≡ 0;
}
