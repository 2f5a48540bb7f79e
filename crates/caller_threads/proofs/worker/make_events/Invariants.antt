use Rattle.std.proofs.Common.{◌≡◌}
use Rattle.caller_threads.specs.Workers.{HasOnly}
use Rattle.caller_threads.proofs.worker.make_events.Given as goal

abbrev pub invariant-loop : goal.invariant-loop
invariant-loop g l = record {
  table : l.pass.place.table_id ≡ l.initial.pass.place.table_id;
  only : HasOnly l.caller l.pass.place.me.0;
}
