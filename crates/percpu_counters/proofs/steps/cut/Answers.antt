use Rattle.std.proofs.Common.{arith}
use Rattle.percpu_counters.proofs.CounterSplits.{splits_as}
use Rattle.percpu_counters.proofs.steps.cut.Goals as goal

pub split_seat-requires : goal.split_seat-requires
split_seat-requires g c = (
  c.requires.table.0,
  omega (arith, c.requires.table.1),
  splits_as c.args.shape _ _ c.args.room _ _ c.requires.shape.1 c.requires.shape.0 c.requires.room c.requires.empty,
)
