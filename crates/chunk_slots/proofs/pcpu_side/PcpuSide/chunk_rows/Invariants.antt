use Rattle.std.proofs.Common.{◌≡◌, ◌++◌, drop, map}
use Rattle.chunk_slots.specs.KeptChunks.{row_of}
use Rattle.chunk_slots.proofs.pcpu_side.PcpuSide.chunk_rows.Given as goal

abbrev pub invariant-loop-chunk : goal.invariant-loop-chunk
invariant-loop-chunk l = l.rows.items ++ map row_of (drop l.chunk-index l.chunk-items) ≡ map row_of l.chunk-items
