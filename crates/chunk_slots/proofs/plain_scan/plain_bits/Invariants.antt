use Rattle.std.proofs.Common.{◌≡◌, take}
use Rattle.chunk_bitmaps.specs.ChunkMap.{taken_bits}
use Rattle.chunk_slots.proofs.plain_scan.plain_bits.Given as goal

abbrev pub invariant-loop-place : goal.invariant-loop-place
invariant-loop-place l = l.plain.items ≡ take l.place (taken_bits l.bits)
