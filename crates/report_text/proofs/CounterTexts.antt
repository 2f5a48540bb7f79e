-- The counters compute.
use Rattle.std.proofs.Common.{refl}
use Rattle.report_text.specs.CounterRows.{FoldsCells}

pub folds_cells : FoldsCells
folds_cells = refl
