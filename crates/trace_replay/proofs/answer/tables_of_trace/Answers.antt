use Rattle.std.proofs.Common.{List, ◌∙◌, ◌≡◌}
use Rattle.std.proofs.lemmas.Result.{IfOk-weaker}
use Rattle.vm_model.specs.declared.calls.Call.{Call}
use Rattle.unit_layout.specs.declared.config.Config.{Config}
use Rattle.vm_model.specs.declared.tables.Tables.{Tables}
use Rattle.unit_layout.specs.Config.{setup_of}
use Rattle.vm_model.specs.History.{World, pick_all, finish, most_events}
use Rattle.trace_text.specs.Reading.{Reading}
use Rattle.trace_text.specs.ToldTraces.{Tells}
use Rattle.kernel_steps.specs.Kernels.{IsStanding, start_of, opening_of, callers_of, tables_for}
use Rattle.trace_rules.specs.RuledTraces.{IsRuledTrace}
use Rattle.trace_replay.specs.Headline.{setup, history_of_trace}
use Rattle.trace_replay.proofs.Replays.{starts_on, picks_within, tables_told}
use Rattle.trace_replay.proofs.answer.tables_of_trace.Goals as goal

pub start-requires : goal.start-requires
start-requires c = let (reading, ruled, tells) = c.requires in starts_on c.args.trace.config c.args.trace.calls reading ruled tells.config tells.calls

pub run-requires : goal.run-requires
run-requires c =
    let (reading, ruled, tells) = c.requires in
    picks_within c.args.trace.config c.args.trace.calls c.as_slice.result.now c.in_ok-kernel.kernel reading ruled tells.calls (c.as_slice.ensures ∙ tells.picks) c.in_ok-kernel.ensures

pub returns : goal.returns
returns c =
    let config : Config = c.args.trace.config in
    let sections : List (List Call) = c.args.trace.calls in
    let started : World = start_of (setup_of config) sections in
    let picked : World = pick_all started c.as_slice.result.now in
    let ran = c.in_ok-run.ensures.ok (setup_of config) (opening_of sections) (callers_of sections) started c.in_ok-kernel.ensures in
    let over = c.in_ok-finish.ensures.ok (setup_of config) (opening_of sections) (callers_of sections) picked ran in
    IfOk-weaker c.tables.result
    (λ (t : Tables). (config : Config) (opening : List Call) (calls : List (List Call)) (w : World) → IsStanding (setup_of config) opening calls w c.finish.new.self → t ≡ tables_for c.args.audit (setup_of config) w)
    (λ (t : Tables). (r : Reading) → IsRuledTrace r → Tells c.args.trace r → t ≡ tables_for c.args.audit (setup r) (history_of_trace r))
    (λ t told r ruled tells. tables_told c.args.audit config sections c.as_slice.result.now r t tells.config tells.calls (c.as_slice.ensures ∙ tells.picks) (told config (opening_of sections) (callers_of sections) (finish most_events picked) over))
    c.tables.ensures
