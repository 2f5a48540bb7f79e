use Rattle.std.proofs.Common.{◌≡◌}
use Rattle.section_table.specs.PassViews.{HasCaller}
use Rattle.tests_turns.proofs.walks.walk.Given as goal

abbrev pub invariant-loop : goal.invariant-loop
invariant-loop g l = record {
  table : l.pass.place.table_id ≡ l.rooms.table.shared.table_id;
  has : HasCaller l.caller l.pass.place.me.0;
}
