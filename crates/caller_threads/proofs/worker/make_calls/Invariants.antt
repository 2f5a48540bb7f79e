use Rattle.std.proofs.Common.{◌≡◌}
use Rattle.count_lines.specs.Shares.{caller_of, IsShareOf, HasSameLines}
use Rattle.caller_threads.specs.Workers.{HasOnly}
use Rattle.caller_threads.proofs.worker.make_calls.Given as goal

abbrev pub invariant-loop : goal.invariant-loop
invariant-loop g l = record {
  table : l.pass.place.table_id ≡ l.fn.pass.place.table_id;
  only : HasOnly (caller_of l.fn.share) l.pass.place.me.0;
  share : IsShareOf l.counters l.share;
  lines : HasSameLines l.fn.share l.share;
}
