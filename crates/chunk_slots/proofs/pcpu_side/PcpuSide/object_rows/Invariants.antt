use Rattle.std.proofs.Common.{◌≡◌, ◌++◌, drop, flat_map}
use Rattle.vm_model.specs.Tables.{object_rows}
use Rattle.chunk_slots.specs.KeptObjects.{holder_in}
use Rattle.chunk_slots.specs.KeptChunkSides.{chunks_in}
use Rattle.chunk_slots.proofs.pcpu_side.PcpuSide.object_rows.Given as goal

abbrev pub invariant-loop-chunk : goal.invariant-loop-chunk
invariant-loop-chunk l =
    l.rows.items ++ flat_map object_rows (chunks_in (holder_in l.self-inside.holders) (drop l.chunk-index l.self-inside.chunks.items))
    ≡ flat_map object_rows (chunks_in (holder_in l.self-inside.holders) l.self-inside.chunks.items)
