use Rattle.std.proofs.Common.{◌≡◌, ◌++◌, map}
use Rattle.vm_model.specs.Space.{count_from}
use Rattle.vm_model.specs.Tables.{hint_row}
use Rattle.chunk_bitmaps.specs.ChunkMap.{taken_bits}
use Rattle.chunk_slots.proofs.kept_chunk.KeptChunk.push_hints.Given as goal

abbrev pub invariant-loop-block : goal.invariant-loop-block
invariant-loop-block l = l.rows.items ≡ l.fn.rows.items ++ map (hint_row l.self-inside.number (taken_bits l.self-inside.bits)) (count_from l.block 0)
