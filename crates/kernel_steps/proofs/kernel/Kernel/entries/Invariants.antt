use Rattle.std.proofs.Common.{◌≡◌, List, take}
use Rattle.vm_model.specs.declared.calls.Call.{Call}
use Rattle.vm_model.specs.Setup.{Setup}
use Rattle.vm_model.specs.History.{World}
use Rattle.vm_model.specs.Tables.{entries_of}
use Rattle.kernel_steps.specs.Kernels.{IsStanding}
use Rattle.kernel_steps.proofs.kernel.Kernel.entries.Given as goal

abbrev pub invariant-loop-local : goal.invariant-loop-local
invariant-loop-local l = (c : Setup) (opening : List Call) (calls : List (List Call)) (w : World) → IsStanding c opening calls w l.self → l.entries.items ≡ entries_of w.events (take l.local-index w.locals)
