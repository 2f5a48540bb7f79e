use Rattle.chunk_slots.proofs.PlainScans.{AreFreeTo}
use Rattle.chunk_slots.proofs.plain_scan.free_at_front.Given as goal

abbrev pub invariant-loop-place : goal.invariant-loop-place
invariant-loop-place l = AreFreeTo l.bits l.place
