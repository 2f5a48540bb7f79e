use Rattle.std.proofs.Common.{◌≡◌, ◌-◌, ◌≤◌, pos}
use Rattle.vm_model.specs.Space.{span, holds, paint}
use Rattle.page_pool.proofs.cells.Cells.clear.Given as goal

abbrev pub invariant-loop-cell : goal.invariant-loop-cell
invariant-loop-cell l = record {
  from : l.first ≤ l.cell;
  to : l.first ≤ l.end → l.cell ≤ l.end;
  cells : l.self ≡ paint (holds (span l.first (l.cell - l.first))) (pos 0) l.initial.self;
}

abbrev pub decreases-loop-cell : goal.decreases-loop-cell
decreases-loop-cell l = l.end - l.cell
