-- A kernel whose callers ran on threads of their own tells the report of the order that happened.
use Rattle.std.proofs.Common.{◌≡◌, ◌++◌, ℕ, List, false, sym, ap, ◌∙◌, subst}
use Rattle.unit_layout.specs.declared.config.Config.{Config}
use Rattle.unit_layout.specs.Config.{setup_of}
use Rattle.vm_model.specs.declared.calls.Call.{Call}
use Rattle.vm_model.specs.declared.rows.CounterRow.{CounterRow}
use Rattle.vm_model.specs.declared.tables.Tables.{Tables}
use Rattle.vm_model.specs.History.{World, pick_all}
use Rattle.vm_model.specs.Tables.{tables_of}
use Rattle.report_text.specs.CounterTotals.{counter_rows}
use Rattle.report_text.specs.Report.{report, schedule}
use Rattle.trace_text.specs.Reading.{Reading, cpus_of}
use Rattle.trace_text.specs.ToldTraces.{config_of, all_calls}
use Rattle.trace_rules.specs.RuledTraces.{IsRuledTrace}
use Rattle.kernel_steps.specs.Kernels.{KernelState, IsStanding, start_of, tables_for}
use Rattle.kernel_steps.specs.KernelRuns.{HasEnded}
use Rattle.kernel_steps.proofs.Moves.{history_is}
use Rattle.trace_replay.specs.Headline.{setup, opening_calls, own_calls, history_of_trace}
use Rattle.trace_replay.specs.LiveReports.{with_picks, IsLiveReport}
use Rattle.trace_replay.specs.LiveCounts.{totals_in, totals_of_trace}
use Rattle.trace_replay.proofs.LegalHistories.{legal_with}
use Rattle.trace_replay.proofs.LiveCounted.{report_of_totals}
use Rattle.trace_replay.proofs.Replays.{same_report}

module _ (config : Config) (sections : List (List Call)) (r : Reading) (ruled : IsRuledTrace r) (same : config ≡ config_of r.header) (all : sections ≡ all_calls r) (picks : List ℕ) (k : KernelState)
    (is : HasEnded (setup_of config) sections picks k) where
  on_trace : HasEnded (setup r) (all_calls r) picks k
  on_trace = subst (λ (c : Config). HasEnded (setup_of c) (all_calls r) picks k) same (subst (λ s. HasEnded (setup_of config) s picks k) all is)

  tables_are : (t : Tables) → ((config : Config) (opening : List Call) (calls : List (List Call)) (w : World) → IsStanding (setup_of config) opening calls w k → t ≡ tables_for false (setup_of config) w)
      → t ≡ tables_for false (setup r) (history_of_trace (with_picks r picks))
  tables_are t told =
      told (config_of r.header) (opening_calls r) (own_calls r) (pick_all (start_of (setup r) (all_calls r)) picks) on_trace.run.stands
      ∙ ap (tables_for false (setup r)) (sym (history_is (setup r) (all_calls r) picks k on_trace))

  pub live_reported : (t : Tables) (rows : List CounterRow) (text : List ℕ)
      → ((config : Config) (opening : List Call) (calls : List (List Call)) (w : World) → IsStanding (setup_of config) opening calls w k → t ≡ tables_for false (setup_of config) w)
      → totals_in rows ≡ totals_of_trace r → text ≡ schedule picks ++ report t rows false → IsLiveReport r text
  live_reported t rows text told counted e = record {
    picks = picks;
    order = record { moving = on_trace.run.moving; over = on_trace.over };
    legal = legal_with r picks ruled;
    says = e
        ∙ ap (λ (x : Tables). schedule picks ++ report x rows false) (tables_are t told)
        ∙ ap (λ (xs : List ℕ). schedule picks ++ xs) (same_report false (setup r) (history_of_trace (with_picks r picks)) rows)
        ∙ ap (λ (xs : List ℕ). schedule picks ++ xs)
        (report_of_totals (tables_of (setup r) (history_of_trace (with_picks r picks))) rows (counter_rows r.header.counters (cpus_of r.header) r.header.batch r.counts) counted);
  }
