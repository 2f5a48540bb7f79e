use Rattle.std.proofs.Common.{FitsSigned, w32, rules, ◌≡◌, ℕ, ◌<◌, refl, sym, subst}
use Rattle.percpu_counters.specs.CounterRule.{bits_of, cell_of}
use Rattle.percpu_counters.proofs.Puts.{adds_as, inside_all}
use Rattle.percpu_counters.proofs.steps.put.Goals as goal

pub fetch_add-requires : goal.fetch_add-requires
fetch_add-requires g c = let q = c.requires.line in
    let bits : bits_of c.args.line ≡ c.cast_unsigned.result = search rules in (
      search rules,
      subst (λ (z : ℕ). cell_of c.args.shape c.args.line.counter c.args.line.cpu < z) (sym c.requires.table.1) (inside_all c.args.shape c.args.line q.2 q.3),
      adds_as c.args.shape _ _ _ _ c.args.line _ _ _ q.1 q.0 bits refl q.2 q.3 c.requires.room (let f : FitsSigned w32 c.args.line.amount = search rules in f),
    )
