use Rattle.std.proofs.Common.{arith, ◌∙◌}
use Rattle.percpu_counters.proofs.CounterSplits.{joins_as}
use Rattle.percpu_counters.proofs.Folds.{learns}
use Rattle.percpu_counters.proofs.steps.unite.Goals as goal

pub join_seat-requires : goal.join_seat-requires
join_seat-requires c = (
  c.requires.table.0,
  c.requires.table.1,
  c.requires.empty.2,
  omega (arith, c.requires.table.2),
  joins_as c.args.shape _ _ _ _ _ c.requires.shape c.requires.empty.0 c.requires.empty.1,
)

pub load-requires : goal.load-requires
load-requires c = (c.join_seat.ensures.0 ∙ c.requires.table.0, omega (arith, c.requires.table.2), learns _ _ _ _ _)
