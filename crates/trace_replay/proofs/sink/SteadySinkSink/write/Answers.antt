use Rattle.std.proofs.Common.{◌<◌, arith, refl}
use Rattle.trace_replay.proofs.sink.SteadySinkSink.write.Goals as goal

pub returns-clause-some : goal.returns-clause-some
returns-clause-some c = λ some. let left : 0 < c.args.self.now.room = c.requires _ refl in grind (arith, c.take.ensures.count)
