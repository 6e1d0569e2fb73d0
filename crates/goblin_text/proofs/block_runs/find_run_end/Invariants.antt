use Rattle.goblin_text.proofs.Common.{slice_index, Reads, IsRun, blocks, ◌≡◌, ℕ, ◌-◌, ◌*◌, ◌<◌, ◌≤◌}
use Rattle.goblin_text.specs.Looks.{block_looks}
use Rattle.goblin_text.proofs.block_runs.find_run_end.Given as goal

-- the blocks so far are of the kind, and of none it is known where its run ends
abbrev pub invariant-loop-block : goal.invariant-loop-block
invariant-loop-block l = record {
  from : l.first ≤ l.block;
  to : l.block ≤ blocks l.initial.view.bytes;
  run : IsRun l.kind l.initial.view.bytes l.first l.block;
  unknown : (k : ℕ) → l.first ≤ k → k < l.block → slice_index l.ends k ≡ 0;
  reading : Reads l.initial.view l.view 0 (block_looks * (l.block - l.first));
}

abbrev pub decreases-loop-block : goal.decreases-loop-block
decreases-loop-block l = l.blocks - l.block
