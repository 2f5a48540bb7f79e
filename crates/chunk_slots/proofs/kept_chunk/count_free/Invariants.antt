use Rattle.std.proofs.Common.{◌-◌}
use Rattle.chunk_bitmaps.specs.ChunkMap.{taken_bits}
use Rattle.chunk_slots.proofs.CountedBits.{IsCounted}
use Rattle.chunk_slots.proofs.kept_chunk.count_free.Given as goal

abbrev pub invariant-loop-place : goal.invariant-loop-place
invariant-loop-place l = IsCounted (taken_bits l.bits) l.place l.free

abbrev pub decreases-loop-place : goal.decreases-loop-place
decreases-loop-place l = l.end - l.place
