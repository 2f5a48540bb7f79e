use Rattle.std.proofs.Common.{length}
use Rattle.trace_replay.proofs.GivenAndTaken.{HasSent}
use Rattle.trace_replay.proofs.send.send.Given as goal

abbrev pub invariant-loop-rest : goal.invariant-loop-rest
invariant-loop-rest g l = HasSent (g.K.Sink.taken l.fn.sink) (g.K.Sink.taken l.sink) (g.K.Sink.room l.sink) (g.K.Sink.faults l.fn.sink) (g.K.Sink.faults l.sink) l.text l.rest

abbrev pub decreases-loop-rest : goal.decreases-loop-rest
decreases-loop-rest g l = length l.rest
