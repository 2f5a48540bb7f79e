-- The counters of a live run, once the opening's count lines were added and each caller has a share with its own.
use Rattle.std.specs.Prelude.{◌≡◌, ℕ, List, length, map, ℤ}
use Rattle.vm_model.specs.declared.rows.CounterRow.{CounterRow}
use Rattle.trace_text.specs.Reading.{Reading, cpus_of}
use Rattle.report_text.specs.CounterTotals.{counter_rows}
use Rattle.percpu_counters.specs.declared.table.Shape.{Shape}
use Rattle.percpu_counters.specs.declared.counters.Counters.{Counters}
use Rattle.percpu_counters.specs.declared.counters.CountPass.{CountPass}
use Rattle.percpu_counters.specs.Passes.{shape_of, adds_of, spare_of, IsPassOf}
use Rattle.count_lines.specs.declared.share.Share.{Share}
use Rattle.count_lines.specs.LinesOfCaller.{added_by, lines_by}
use Rattle.count_lines.specs.Shares.{AreSharesOf}

-- the numbers of the header, and room for as many adds as there are count lines
abbrev pub counters_of : Reading → Shape
counters_of r = record { cpus = cpus_of r.header; counters = r.header.counters; batch = r.header.batch; adds = length r.counts }

-- the pass added the opening's lines, and has no room but that of the shares
pub record IsCountingFor (r : Reading) (c : Counters) (p : CountPass) (shares : List Share) : Type 0 where
  pub shape : shape_of c ≡ counters_of r
  pub pass : IsPassOf c p
  pub adds : adds_of p ≡ map added_by (lines_by 0 r.counts)
  pub spare : spare_of p ≡ 0
  pub shared : AreSharesOf c r.header.callers r.counts shares

abbrev pub totals_in : List CounterRow → List ℤ
totals_in rows = map (λ (row : CounterRow). row.total) rows

-- the totals of a trace's counters
abbrev pub totals_of_trace : Reading → List ℤ
totals_of_trace r = totals_in (counter_rows r.header.counters (cpus_of r.header) r.header.batch r.counts)
