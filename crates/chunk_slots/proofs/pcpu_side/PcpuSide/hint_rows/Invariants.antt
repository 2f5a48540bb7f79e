use Rattle.std.proofs.Common.{◌≡◌, ◌++◌, drop, flat_map}
use Rattle.chunk_slots.specs.KeptChunks.{hints_of}
use Rattle.chunk_slots.proofs.pcpu_side.PcpuSide.hint_rows.Given as goal

abbrev pub invariant-loop-chunk : goal.invariant-loop-chunk
invariant-loop-chunk l = l.rows.items ++ flat_map hints_of (drop l.chunk-index l.chunk-items) ≡ flat_map hints_of l.chunk-items
