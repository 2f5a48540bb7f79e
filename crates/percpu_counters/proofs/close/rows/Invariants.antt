use Rattle.std.proofs.Common.{◌≡◌, map}
use Rattle.std.specs.List.{range_with_len}
use Rattle.percpu_counters.specs.CounterRule.{row_of}
use Rattle.percpu_counters.specs.RowsFromWords.{row_at}
use Rattle.percpu_counters.proofs.close.rows.Given as goal

abbrev pub invariant-loop-counter : goal.invariant-loop-counter
invariant-loop-counter l = l.rows.items ≡ map (λ k. row_at l.shape.cpus l.words (row_of l.shape k)) (range_with_len 0 l.counter)
