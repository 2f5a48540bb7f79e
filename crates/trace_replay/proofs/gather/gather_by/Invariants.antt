use Rattle.std.proofs.Common.{vec_len, ◌-◌}
use Rattle.trace_replay.proofs.GivenAndTaken.{HasGathered}
use Rattle.trace_replay.proofs.gather.gather_by.Given as goal

abbrev pub invariant-loop-bytes : goal.invariant-loop-bytes
invariant-loop-bytes g l = HasGathered (g.S.Source.left l.fn.source) (g.S.Source.left l.source) (g.S.Source.faults l.fn.source) (g.S.Source.faults l.source) l.bytes.items

abbrev pub decreases-loop-bytes : goal.decreases-loop-bytes
decreases-loop-bytes g l = 16777217 - vec_len l.bytes
