use Rattle.std.proofs.Common.{◌≡◌, ◌+◌, ◌<◌, ◌≤◌, ◌++◌, ℕ, All, length, map}
use Rattle.std.specs.Vec.Iter.{into_iter_items}
use Rattle.section_table.specs.PassViews.{HasCaller}
use Rattle.count_lines.specs.Shares.{IsShareOf}
use Rattle.caller_threads.specs.Workers.{IsWorkerOf, AreNumbered, share_of}
use Rattle.caller_threads.proofs.driving.hand_out.Given as goal

-- the callers of the shares that are left are in the pass
abbrev pub invariant-loop-share : goal.invariant-loop-share
invariant-loop-share l = record {
  table : l.pass.place.table_id ≡ l.table.table.shared.table_id;
  left : (k : ℕ) → 1 + length l.workers.items ≤ k → k < 1 + length l.fn.shares.items → HasCaller k l.pass.place.me.0;
  each : All (IsShareOf l.counters) (into_iter_items l.share-iterator);
  numbered : AreNumbered (1 + length l.workers.items) (into_iter_items l.share-iterator);
  workers : All (IsWorkerOf l.table.table.shared.table_id l.counters) l.workers.items;
  shares : map share_of l.workers.items ++ into_iter_items l.share-iterator ≡ l.fn.shares.items;
}
