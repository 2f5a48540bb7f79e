use Rattle.std.proofs.Common.{◌≡◌, ◌+◌, ◌++◌, All, length, map}
use Rattle.std.specs.Vec.Iter.{into_iter_items}
use Rattle.section_table.specs.PassViews.{HasAll}
use Rattle.caller_threads.specs.Workers.{AllEnded, IsDone, AreNumbered, share_of}
use Rattle.caller_threads.proofs.driving.gather.Given as goal

-- the pass has the opening and the callers of the shares so far, which have ended
abbrev pub invariant-loop-worker : goal.invariant-loop-worker
invariant-loop-worker l = record {
  table : l.pass.place.table_id ≡ l.table.table.shared.table_id;
  all : HasAll (1 + length l.shares.items) l.pass.place.me.0;
  ended : AllEnded l.pass.place.me.0;
  each : All (IsDone l.table.table.shared.table_id) (into_iter_items l.worker-iterator);
  numbered : AreNumbered (1 + length l.shares.items) (map share_of (into_iter_items l.worker-iterator));
  shares : l.shares.items ++ map share_of (into_iter_items l.worker-iterator) ≡ map share_of l.fn.workers.items;
}
