use Rattle.std.proofs.Common.{◌≡◌, List}
use Rattle.vm_model.specs.declared.calls.Call.{Call}
use Rattle.vm_model.specs.Setup.{Setup}
use Rattle.vm_model.specs.History.{World, first_mover}
use Rattle.kernel_steps.specs.Kernels.{IsStanding}
use Rattle.kernel_steps.proofs.WorldCallers.{mover_from}
use Rattle.kernel_steps.proofs.kernel.Kernel.first_mover.Given as goal

abbrev pub invariant-loop-caller : goal.invariant-loop-caller
invariant-loop-caller l = (c : Setup) (opening : List Call) (calls : List (List Call)) (w : World) → IsStanding c opening calls w l.self → mover_from w l.caller ≡ first_mover w
