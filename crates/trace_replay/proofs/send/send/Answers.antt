use Rattle.std.proofs.Common.{sym, subst}
use Rattle.trace_replay.specs.declared.source.Failed.{Failed}
use Rattle.trace_replay.proofs.GivenAndTaken.{HasSent, prefix_sent, sends_more, on_err}
use Rattle.trace_replay.proofs.send.send.Goals as goal

pub returns-in_err-count-clause-prefix : goal.returns-in_err-count-clause-prefix
returns-in_err-count-clause-prefix g c =
    on_err _ _ _ c.from_residual.result (prefix_sent Failed c.in_err-count.field-0.0 (g.K.Sink.taken c.args.sink.now) (g.K.Sink.taken c.loop-rest.sink) (g.K.Sink.taken c.write.new.self) (g.K.Sink.room c.loop-rest.sink) (g.K.Sink.faults c.args.sink.now) (g.K.Sink.faults c.loop-rest.sink) c.args.text.now c.loop-rest.rest.now c.loop-rest.invariant c.in_err-count.ensures.takes)

pub loop-rest-preserved : goal.loop-rest-preserved
loop-rest-preserved g c =
    subst (HasSent (g.K.Sink.taken c.args.sink.now) (g.K.Sink.taken c.write.new.self) (g.K.Sink.room c.write.new.self) (g.K.Sink.faults c.args.sink.now) (g.K.Sink.faults c.write.new.self) c.args.text.now) (sym c.split_at.ensures.back)
    (sends_more Failed (g.K.Sink.taken c.args.sink.now) (g.K.Sink.taken c.loop-rest.sink) (g.K.Sink.taken c.write.new.self) (g.K.Sink.room c.loop-rest.sink) (g.K.Sink.room c.write.new.self) (g.K.Sink.faults c.args.sink.now) (g.K.Sink.faults c.loop-rest.sink) (g.K.Sink.faults c.write.new.self) c.in_ok-count.count c.args.text.now c.loop-rest.rest.now c.loop-rest.invariant c.in_ok-count.ensures.takes c.in_ok-count.ensures.fills c.write.ensures.no_room c.in_ok-count.ensures.no_fault)
