-- What a step of a reached world leads to is reached, and so is the start of the callers.
use Rattle.std.proofs.Common.{ℕ, List, [], arith}
use Rattle.vm_model.specs.declared.calls.Call.{Call}
use Rattle.vm_model.specs.Setup.{Setup}
use Rattle.vm_model.specs.History.{World, step, finish, most_events, opening_world, with_callers}
use Rattle.vm_model.specs.LegalHistory.{IsReached}
use Rattle.vm_model.specs.Rules.{IsTrace}
use Rattle.map_laws.specs.WorldSteps.{StepsAreReached}
use Rattle.map_laws.proofs.MapLaws.{IsRunTo, run_append, after_append, step_led, picked_reached}
use Rattle.map_laws.proofs.TraceWorlds.{IsTraceWorld, trace_lasts, trace_first, trace_reached}
use Rattle.map_laws.proofs.objects.ObjectsReady.{trace_legal}

-- a run on from a reached world leads to another
runs_on : (c : Setup) (opening : List Call) (calls : List (List Call)) (w v : World) → IsReached c opening calls w → IsRunTo w v → IsReached c opening calls v
runs_on c opening calls w v reached on = grind (arith, run_append, after_append)

step_reached : (c : Setup) (opening : List Call) (calls : List (List Call)) (w : World) (k : ℕ) → IsTrace c opening calls → IsReached c opening calls w → IsReached c opening calls (step w k)
step_reached c opening calls w k trace reached =
    let is = trace_reached c opening calls trace w reached in
    runs_on c opening calls w (step w k) reached (step_led c calls (IsTraceWorld c) (trace_lasts c opening calls trace) (trace_legal c trace.setup) w k is.0 is.1).runs

started_reached : (c : Setup) (opening : List Call) (calls : List (List Call)) → IsTrace c opening calls → IsReached c opening calls (with_callers c calls (finish most_events (opening_world c opening calls)))
started_reached c opening calls trace = picked_reached c calls (IsTraceWorld c) (trace_lasts c opening calls trace) (trace_legal c trace.setup) opening trace (trace_first c opening calls trace) []

pub steps_reached : StepsAreReached
steps_reached c opening calls trace = record { started = started_reached c opening calls trace; steps = λ w k. step_reached c opening calls w k trace }
