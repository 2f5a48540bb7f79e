use Rattle.std.proofs.Common.{rules, ℕ, ◌<◌, refl, sym, subst}
use Rattle.percpu_counters.specs.CounterRule.{cell_of}
use Rattle.percpu_counters.proofs.Puts.{inside_all}
use Rattle.percpu_counters.proofs.Folds.{lifts_as}
use Rattle.percpu_counters.proofs.steps.lift.Goals as goal

pub swap-requires : goal.swap-requires
swap-requires g c = let q = c.requires.line in (
  search rules,
  subst (λ (z : ℕ). cell_of c.args.shape c.args.line.counter c.args.line.cpu < z) (sym c.requires.table.1) (inside_all c.args.shape c.args.line q.2 q.3),
  lifts_as c.args.shape _ _ _ _ c.args.line _ _ q.1 q.0 refl q.2 q.3 c.requires.added c.requires.empty,
)
