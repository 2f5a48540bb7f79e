use Rattle.std.proofs.Common.{◌≡◌}
use Rattle.tests_turns.specs.PassCallers.{KeepsCallers}
use Rattle.tests_turns.proofs.walks.visit_each.Given as goal

abbrev pub invariant-loop-caller : goal.invariant-loop-caller
invariant-loop-caller g l = record {
  table : l.pass.place.table_id ≡ l.initial.pass.place.table_id;
  callers : KeepsCallers l.initial.pass.place.me.0 l.pass.place.me.0;
}
