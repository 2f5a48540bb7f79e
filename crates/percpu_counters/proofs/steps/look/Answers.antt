use Rattle.std.proofs.Common.{rules, ℕ, ◌<◌, pos, sym, subst}
use Rattle.percpu_counters.specs.CounterRule.{cell_of}
use Rattle.percpu_counters.proofs.Puts.{inside_all}
use Rattle.percpu_counters.proofs.Folds.{looks}
use Rattle.percpu_counters.proofs.steps.look.Goals as goal

pub load-requires : goal.load-requires
load-requires c = let q = c.requires.cell in (
  search rules,
  subst (λ (z : ℕ). cell_of c.args.shape c.args.counter c.args.cpu < z) (sym c.requires.table.1) (inside_all c.args.shape (record { caller = 0; after = 0; counter = c.args.counter; cpu = c.args.cpu; amount = pos 0 }) q.1 q.2),
  looks _ _ _ _ _,
)
