use Rattle.std.proofs.Common.{◌-◌, ◌++◌, codes}
use Rattle.trace_maker.proofs.PickLines.{AreLeft}
use Rattle.trace_maker.proofs.picks.put_picks.Given as goal

abbrev pub invariant-loop-pick : goal.invariant-loop-pick
invariant-loop-pick l = AreLeft (l.count - l._pick) l.draws.state l.text.items l.count l.fn.draws.state (l.fn.text.items ++ codes "order")
