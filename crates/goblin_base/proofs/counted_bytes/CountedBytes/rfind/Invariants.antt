use Rattle.goblin_base.proofs.Common.{◌≡◌, ◌+◌, ◌-◌, ◌%◌, ◌≤◌, ◌^◌, min, piece_start}
use Rattle.std.proofs.Common.{slice_range}
use Rattle.goblin_base.proofs.counted_bytes.CountedBytes.rfind.Given as goal

-- the byte is none of those that were read, which are whole blocks of sixteen
abbrev pub invariant-loop-end : goal.invariant-loop-end
invariant-loop-end l = record {
  same : l.self.bytes ≡ l.fn.self.bytes;
  ordered : l.from ≤ l.end;
  within : l.end ≤ l.to;
  start : piece_start (slice_range l.fn.self.bytes l.from l.to) l.byte (l.to - l.from)
      ≡ piece_start (slice_range l.fn.self.bytes l.from l.to) l.byte (l.end - l.from);
  blocks : (l.to - l.end) % 16 ≡ 0;
  counted : l.self.count ≡ min (l.fn.self.count + (l.to - l.end)) (2 ^ 128 - 1);
}

abbrev pub decreases-loop-end : goal.decreases-loop-end
decreases-loop-end l = l.end
