use Rattle.std.proofs.Common.{map, not}
use Rattle.chunk_slots.proofs.PlainScans.{AreFreeTo}
use Rattle.chunk_slots.proofs.plain_scan.first_free.Given as goal

abbrev pub invariant-loop-place : goal.invariant-loop-place
invariant-loop-place l = AreFreeTo (map not l.bits) l.place
