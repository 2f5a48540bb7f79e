-- What a kernel tells that ran the opening, the picks and the rest of a trace is its history.
use Rattle.std.proofs.Common.{All, ◌≡◌, ℕ, ◌+◌, ◌<◌, Bool, true, false, List, length, refl, sym, ap, ◌∙◌, subst, arith}
use Rattle.vm_model.specs.declared.calls.Call.{Call}
use Rattle.unit_layout.specs.declared.config.Config.{Config}
use Rattle.vm_model.specs.declared.tables.Tables.{Tables}
use Rattle.unit_layout.specs.Config.{setup_of}
use Rattle.vm_model.specs.Setup.{Setup}
use Rattle.vm_model.specs.declared.rows.CounterRow.{CounterRow}
use Rattle.report_text.specs.Report.{report}
use Rattle.vm_model.specs.History.{World, finish, most_events, pick_all, history_of}
use Rattle.vm_model.specs.Tables.{tables_of}
use Rattle.trace_text.specs.Reading.{Reading, calls_of}
use Rattle.trace_text.specs.ToldTraces.{config_of, all_calls}
use Rattle.std.proofs.lemmas.List.FromFn.{length-map-range_with_len}
use Rattle.kernel_steps.proofs.CallersThere.{all_there}
use Rattle.kernel_steps.specs.Kernels.{KernelState, IsStanding, CanStart, start_of, opening_of, callers_of, tables_for}
use Rattle.trace_rules.specs.RuledTraces.{IsRuledTrace}
use Rattle.trace_rules.proofs.TracesRuled.{sections_small}
use Rattle.trace_replay.specs.Headline.{setup, history_of_trace}

-- a kernel can start on what a trace tells
pub starts_on : (config : Config) (sections : List (List Call)) (r : Reading) → IsRuledTrace r → config ≡ config_of r.header → sections ≡ all_calls r → CanStart (setup_of config) sections
starts_on config sections r is same all = subst (λ (c : Config). CanStart (setup_of c) sections) (sym same) (subst (CanStart (setup r)) (sym all) (record { some = omega arith; trace = is.trace; small = sections_small r is }))

-- each pick is a caller of the kernel that has started
pub picks_within : (config : Config) (sections : List (List Call)) (picks : List ℕ) (k : KernelState) (r : Reading) → IsRuledTrace r → sections ≡ all_calls r → picks ≡ r.picks
    → IsStanding (setup_of config) (opening_of sections) (callers_of sections) (start_of (setup_of config) sections) k → All (λ pick. pick < length k.locals) picks
picks_within config sections picks k r is all same st =
    let many : length k.locals ≡ 1 + r.header.callers
    = ap length st.locals ∙ all_there (setup_of config) sections ∙ ap (λ s. 1 + length (callers_of s)) all ∙ ap (λ n. 1 + n) (length-map-range_with_len (λ k. calls_of k r.calls) 1 r.header.callers) in
    subst (All (λ pick. pick < length k.locals)) (sym same) (λ i d low. (let high = (is.picks i d low).high in omega arith))

-- the tables of where the kernel stands at the end are those of the history
pub tables_told : (audit : Bool) (config : Config) (sections : List (List Call)) (picks : List ℕ) (r : Reading) (t : Tables) → config ≡ config_of r.header → sections ≡ all_calls r → picks ≡ r.picks
    → t ≡ tables_for audit (setup_of config) (finish most_events (pick_all (start_of (setup_of config) sections) picks)) → t ≡ tables_for audit (setup r) (history_of_trace r)
unfolding history_of
tables_told audit config sections picks r t same all picked is =
    is
    ∙ ap (λ (c : Config). tables_for audit (setup_of c) (finish most_events (pick_all (start_of (setup_of c) sections) picks))) same
    ∙ ap (λ s. tables_for audit (setup r) (finish most_events (pick_all (start_of (setup r) s) picks))) all
    ∙ ap (λ ps. tables_for audit (setup r) (finish most_events (pick_all (start_of (setup r) (all_calls r)) ps))) picked

-- a report is the same without the rows that it does not write
pub same_report : (audit : Bool) (c : Setup) (w : World) (rows : List CounterRow) → report (tables_for audit c w) rows audit ≡ report (tables_of c w) rows audit
same_report true c w rows = refl
same_report false c w rows = refl
