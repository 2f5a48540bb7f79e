-- The rows of the counters, read off their words.
use Rattle.std.specs.Prelude.{ℕ, ◌+◌, ◌%◌, ◌^◌, List, map, slice_index, ℤ}
use Rattle.std.specs.List.{range_with_len}
use Rattle.std.specs.Int.{cast_signed, w64}
use Rattle.vm_model.specs.declared.calls.CountLine.{CountLine}
use Rattle.vm_model.specs.declared.rows.CounterRow.{CounterRow}
use Rattle.report_text.specs.CounterTotals.{total, lines_of, counter_rows}
use Rattle.percpu_counters.specs.declared.table.Shape.{Shape}
use Rattle.percpu_counters.specs.CounterRule.{row_sum, row_of}

-- the row whose words begin here
abbrev pub row_at : (cpus : ℕ) → List ℕ → (first : ℕ) → CounterRow
row_at cpus words first = record {
  total = cast_signed w64 (row_sum words first (cpus + 1) % 2 ^ 64);
  count = cast_signed w64 (slice_index words first);
  cells = map (λ cpu. cast_signed w64 (slice_index words (first + 1 + cpu))) (range_with_len 0 cpus);
}

abbrev pub rows_in : Shape → List ℕ → List CounterRow
rows_in s words = map (λ k. row_at s.cpus words (row_of s k)) (range_with_len 0 s.counters)

-- what each counter was given
abbrev pub totals_of : Shape → List CountLine → List ℤ
totals_of s adds = map (λ k. total (lines_of k adds)) (range_with_len 0 s.counters)

-- count and cells of each counter, by one pass over the adds, and the total
abbrev pub exact_rows : Shape → List CountLine → List CounterRow
exact_rows s adds = counter_rows s.counters s.cpus s.batch adds
