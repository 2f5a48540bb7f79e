-- Steps lead from reached worlds to reached worlds.
use Rattle.std.specs.Prelude.{ℕ, List}
use Rattle.vm_model.specs.declared.calls.Call.{Call}
use Rattle.vm_model.specs.Setup.{Setup}
use Rattle.vm_model.specs.History.{World, step, finish, most_events, opening_world, with_callers}
use Rattle.vm_model.specs.LegalHistory.{IsReached}
use Rattle.vm_model.specs.Rules.{IsTrace}

-- a step from a reached world, of whichever caller, leads to a reached world; the start of the callers is one
pub record IsReachedOn (c : Setup) (opening : List Call) (calls : List (List Call)) : Type 0 where
  pub started : IsReached c opening calls (with_callers c calls (finish most_events (opening_world c opening calls)))
  pub steps : (w : World) (k : ℕ) → IsReached c opening calls w → IsReached c opening calls (step w k)

abbrev pub StepsAreReached : Type 0
StepsAreReached = (c : Setup) (opening : List Call) (calls : List (List Call)) → IsTrace c opening calls → IsReachedOn c opening calls
