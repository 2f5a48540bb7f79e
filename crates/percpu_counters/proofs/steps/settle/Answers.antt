use Rattle.std.proofs.Common.{rules, ℕ, ◌<◌, refl, sym, subst}
use Rattle.percpu_counters.specs.CounterRule.{row_of}
use Rattle.percpu_counters.proofs.Folds.{settles_as, first_inside}
use Rattle.percpu_counters.proofs.steps.settle.Goals as goal

pub fetch_add-requires : goal.fetch_add-requires
fetch_add-requires c = let q = c.requires.shape in (
  search rules,
  subst (λ (z : ℕ). row_of c.args.shape c.args.counter < z) (sym c.requires.table.1) (first_inside c.args.shape c.args.counter q.1),
  settles_as c.args.shape _ _ _ _ c.args.counter _ _ q.0 refl q.1 c.requires.added c.requires.hand,
)
