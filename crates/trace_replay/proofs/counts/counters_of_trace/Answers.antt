use Rattle.std.proofs.Common.{◌≡◌, ℕ, List, length, ap, ◌∙◌}
use Rattle.std.proofs.lemmas.Result.{IfOk-weaker}
use Rattle.vm_model.specs.declared.rows.CounterRow.{CounterRow}
use Rattle.report_text.specs.CounterTotals.{counter_rows}
use Rattle.trace_text.specs.Reading.{Reading, cpus_of}
use Rattle.trace_text.specs.ToldTraces.{Tells}
use Rattle.trace_rules.specs.RuledTraces.{IsRuledTrace}
use Rattle.trace_replay.proofs.TraceCounters.{units_told, lines_within, rows_told}
use Rattle.trace_replay.proofs.counts.counters_of_trace.Goals as goal

pub counter_rows-requires-clause-lines : goal.counter_rows-requires-clause-lines
counter_rows-requires-clause-lines c =
    let (r, ruled, tells) = c.requires in
    let cpus : ℕ = length c.units.result.now in
    let units : cpus ≡ cpus_of r.header = ap length c.units.ensures ∙ units_told c.args.trace.now.config r tells.config in
    lines_within c.args.trace.now.counters cpus c.args.trace.now.batch c.as_slice.result.now r tells.counters units (c.as_slice.ensures ∙ tells.counts) ruled

pub returns : goal.returns
returns c =
    let cpus : ℕ = length c.units.result.now in
    IfOk-weaker c.counter_rows.result
    (λ (rows : List CounterRow). rows ≡ counter_rows c.args.trace.now.counters cpus c.args.trace.now.batch c.as_slice.result.now)
    (λ (rows : List CounterRow). (r : Reading) → IsRuledTrace r → Tells c.args.trace.now r → rows ≡ counter_rows r.header.counters (cpus_of r.header) r.header.batch r.counts)
    (λ rows is r ruled tells.
    is
    ∙ rows_told c.args.trace.now.counters cpus c.args.trace.now.batch c.as_slice.result.now r tells.counters (ap length c.units.ensures ∙ units_told c.args.trace.now.config r tells.config) (c.as_slice.ensures ∙ tells.counts) tells.batch)
    c.counter_rows.ensures
