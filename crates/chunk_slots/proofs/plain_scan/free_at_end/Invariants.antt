use Rattle.std.proofs.Common.{reverse}
use Rattle.chunk_slots.proofs.PlainScans.{AreFreeTo}
use Rattle.chunk_slots.proofs.plain_scan.free_at_end.Given as goal

abbrev pub invariant-loop-count : goal.invariant-loop-count
invariant-loop-count l = AreFreeTo (reverse l.bits) l.count
