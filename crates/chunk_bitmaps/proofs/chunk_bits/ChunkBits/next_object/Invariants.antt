use Rattle.std.proofs.Common.{◌≡◌, ◌-◌, ◌≤◌}
use Rattle.chunk_bitmaps.proofs.ObjectsFrom.{begun}
use Rattle.chunk_bitmaps.proofs.chunk_bits.ChunkBits.next_object.Given as goal

abbrev pub invariant-loop-place : goal.invariant-loop-place
invariant-loop-place l = record {
  after : l.from ≤ l.place;
  within : l.place ≤ l.len;
  left : begun l.self-inside.taken l.self-inside.bounds l.from ≡ begun l.self-inside.taken l.self-inside.bounds l.place;
}

abbrev pub decreases-loop-place : goal.decreases-loop-place
decreases-loop-place l = l.len - l.place
