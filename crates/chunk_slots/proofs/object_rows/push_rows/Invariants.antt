use Rattle.std.proofs.Common.{◌≡◌, ◌≤◌, ◌-◌, ◌++◌}
use Rattle.chunk_bitmaps.specs.ChunkMap.{objects_from}
use Rattle.chunk_slots.specs.KeptObjects.{holder_in}
use Rattle.chunk_slots.specs.LiveObjectRows.{live_rows}
use Rattle.chunk_slots.proofs.LiveObjects.{live_among}
use Rattle.chunk_slots.proofs.object_rows.push_rows.Given as goal

abbrev pub invariant-loop-span : goal.invariant-loop-span
invariant-loop-span l = record {
  within : l.from ≤ l.chunk.bits.bits;
  rest : l.rows.items ++ live_among (holder_in l.holders) l.chunk (objects_from l.from l.chunk.bits) ≡ l.fn.rows.items ++ live_rows (holder_in l.holders) l.chunk;
}

abbrev pub decreases-loop-span : goal.decreases-loop-span
decreases-loop-span l = l.chunk.bits.bits - l.from
