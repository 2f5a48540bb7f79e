-- Counters after some lines, worked by hand.
use Rattle.std.specs.Prelude.{◌≡◌, [], ◌∷◌, pos, negsuc, List}
use Rattle.vm_model.specs.declared.calls.CountLine.{CountLine}
use Rattle.report_text.specs.CounterTotals.{counter_rows}

abbrev pub few_lines : List CountLine
few_lines = record { caller = 0; after = 0; counter = 0; cpu = 0; amount = pos 31 } ∷ record { caller = 0; after = 0; counter = 0; cpu = 0; amount = pos 1 }
    ∷ record { caller = 0; after = 0; counter = 0; cpu = 0; amount = negsuc 39 } ∷ record { caller = 0; after = 0; counter = 1; cpu = 0; amount = pos 31 } ∷ []

-- 31 and 1 move into the count, and so does -40; 31 alone stays in its cell
abbrev pub FoldsCells : Type 0
FoldsCells = counter_rows 2 1 32 few_lines ≡ record { total = negsuc 7; count = negsuc 7; cells = pos 0 ∷ [] } ∷ record { total = pos 31; count = pos 0; cells = pos 31 ∷ [] } ∷ []
