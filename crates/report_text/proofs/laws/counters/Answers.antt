use Rattle.report_text.proofs.CounterSums.{hold_total}
use Rattle.report_text.proofs.CounterTexts.{folds_cells}
use Rattle.report_text.proofs.laws.counters.Goals as goal

pub returns : goal.returns
returns c = record { cells = folds_cells; hold_total = hold_total }
