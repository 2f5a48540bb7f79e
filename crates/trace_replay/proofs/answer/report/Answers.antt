use Rattle.std.proofs.Common.{◌∙◌, ap, refl, Bool, List}
use Rattle.vm_model.specs.declared.rows.CounterRow.{CounterRow}
use Rattle.vm_model.specs.declared.tables.Tables.{Tables}
use Rattle.vm_model.specs.Tables.{tables_of}
use Rattle.report_text.specs.Report.{report}
use Rattle.report_text.specs.CounterTotals.{counter_rows}
use Rattle.trace_text.specs.Reading.{cpus_of}
use Rattle.trace_replay.specs.Headline.{setup, history_of_trace}
use Rattle.trace_replay.proofs.LegalHistories.{legal_history}
use Rattle.trace_replay.proofs.Replays.{same_report}
use Rattle.trace_replay.proofs.answer.report.Goals as goal

pub returns : goal.returns
returns c = λ reading ruled tells. (
  refl,
  (
    legal_history reading ruled,
    c.in_ok-text.ensures
        ∙ ap (λ (t : Tables). report t c.in_ok-counters.counters c.audits-audit.result) (c.in_ok-tables.ensures reading ruled tells)
        ∙ same_report c.audits-audit.result (setup reading) (history_of_trace reading) c.in_ok-counters.counters
        ∙ ap (λ (rows : List CounterRow). report (tables_of (setup reading) (history_of_trace reading)) rows c.audits-audit.result) (c.in_ok-counters.ensures reading ruled tells)
        ∙ ap (λ (audit : Bool). report (tables_of (setup reading) (history_of_trace reading)) (counter_rows reading.header.counters (cpus_of reading.header) reading.header.batch reading.counts) audit) c.audits-audit.ensures,
  ),
)
