use Rattle.std.proofs.Common.{◌≡◌, ◌+◌, ◌%◌, map, get_or, w64}
use Rattle.std.specs.List.{range_with_len}
use Rattle.std.specs.Int.{cast_signed}
use Rattle.percpu_counters.specs.CounterRule.{row_sum}
use Rattle.percpu_counters.proofs.close.row.Given as goal

abbrev pub invariant-loop-cpu : goal.invariant-loop-cpu
invariant-loop-cpu l = record {
  cells : l.cells.items ≡ map (λ cpu. cast_signed w64 (get_or l.words (l.first + 1 + cpu) 0)) (range_with_len 0 l.cpu);
  total : l.total ≡ row_sum l.words l.first (l.cpu + 1) % 18446744073709551616;
}
