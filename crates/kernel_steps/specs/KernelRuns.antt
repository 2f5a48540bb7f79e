-- Where a kernel stands in a run: after some picks from its start, each of which moved.
use Rattle.std.specs.Prelude.{◌≡◌, ℕ, true, List, ◌++◌}
use Rattle.vm_model.specs.declared.calls.Call.{Call}
use Rattle.vm_model.specs.Setup.{Setup}
use Rattle.vm_model.specs.History.{pick_all}
use Rattle.vm_model.specs.LegalHistory.{AllOver}
use Rattle.section_laws.specs.Lawful.{IsRunning}
use Rattle.section_laws.specs.MovesInTurn.{all_move}
use Rattle.kernel_steps.specs.Kernels.{KernelState, IsStanding, movers, start_of, opening_of, callers_of}

-- the kernel stands where these picks lead from its start, and each of them moved
pub record HasRun (c : Setup) (sections : List (List Call)) (picks : List ℕ) (k : KernelState) : Type 0 where
  pub started : IsRunning c (opening_of sections) (callers_of sections) (start_of c sections)
  pub moving : all_move (start_of c sections) picks ≡ true
  pub stands : IsStanding c (opening_of sections) (callers_of sections) (pick_all (start_of c sections) picks) k

-- and all callers have ended
pub record HasEnded (c : Setup) (sections : List (List Call)) (picks : List ℕ) (k : KernelState) : Type 0 where
  pub run : HasRun c sections picks k
  pub moved : k.moved ≡ movers (start_of c sections).events ++ picks
  pub over : AllOver (pick_all (start_of c sections) picks).locals
