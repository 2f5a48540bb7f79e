-- The callers of passes, and what a caller's thread leaves.
use Rattle.std.specs.Prelude.{◌≡◌, ℕ, List, length, map, true, None}
use Rattle.std.specs.List.{range_with_len}
use Rattle.vm_model.specs.History.{Local}
use Rattle.vm_model.specs.Parts.{Region, wants}
use Rattle.atomic_table.specs.Seated.{TableId}
use Rattle.percpu_counters.specs.declared.counters.Counters.{Counters}
use Rattle.count_lines.specs.declared.share.Share.{Share}
use Rattle.count_lines.specs.Shares.{caller_of, IsShareOf, HasSameLines, IsFinished}
use Rattle.section_table.specs.declared.views.Held.{Held}
use Rattle.section_table.specs.declared.views.View.{View}
use Rattle.section_table.specs.PassViews.{Has, HasCaller}
use Rattle.caller_threads.specs.declared.worker.Worker.{Worker}

-- the pass has this caller and no other
pub record HasOnly (caller : ℕ) (v : View Region Local) : Type 0 where
  pub has : HasCaller caller v
  pub only : (k : ℕ) (h : Held Local) → Has v k h → k ≡ caller

-- each caller that the pass has, has ended
abbrev pub AllEnded : View Region Local → Type 0
AllEnded v = (k : ℕ) (h : Held Local) → Has v k h → wants h.local ≡ None

abbrev pub share_of : Worker → Share
share_of worker = worker.share

-- the shares of the callers from a number on
abbrev pub AreNumbered : (first : ℕ) → List Share → Type 0
AreNumbered first shares = map caller_of shares ≡ range_with_len first (length shares)

-- its pass is one of this table, and has the caller of its share alone
pub record IsWorkerOf (t : TableId) (c : Counters) (x : Worker) : Type 0 where
  pub table : x.pass.place.table_id ≡ t
  pub only : HasOnly (caller_of x.share) x.pass.place.me.0
  pub share : IsShareOf c x.share

-- the same, and where it tells that its caller has ended, it has
pub record IsDone (t : TableId) (x : Worker) : Type 0 where
  pub table : x.pass.place.table_id ≡ t
  pub only : HasOnly (caller_of x.share) x.pass.place.me.0
  pub ended : x.ended ≡ true → AllEnded x.pass.place.me.0

-- what the thread of a caller leaves of a worker
pub record HasWorked (t : TableId) (c : Counters) (old new : Worker) : Type 0 where
  pub done : IsDone t new
  pub share : IsShareOf c new.share
  pub lines : HasSameLines old.share new.share
  pub finished : IsFinished new.share
