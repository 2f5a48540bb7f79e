use Rattle.std.proofs.Common.{arith, sym, ◌∙◌}
use Rattle.unit_layout.proofs.GroupPlaces.{groups_in_processors}
use Rattle.unit_layout.proofs.refusals.refusal.Goals as goal

pub overflow_cast-result : goal.overflow_cast-result
overflow_cast-result c = let few = groups_in_processors c.args.groups.now 0 (sym c.without_processor.ensures ∙ c.in_default.is) in omega arith
