use Rattle.std.proofs.Common.{◌≡◌, ◌≤◌, ◌-◌, List, length}
use Rattle.vm_model.specs.declared.calls.Call.{Call}
use Rattle.vm_model.specs.Setup.{Setup}
use Rattle.vm_model.specs.History.{World, finish, most_events}
use Rattle.kernel_steps.specs.Kernels.{IsStanding, HaveEnded}
use Rattle.kernel_steps.proofs.kernel.Kernel.finish.Given as goal

abbrev pub invariant-loop : goal.invariant-loop
invariant-loop l = record {
  within : l.ended ≤ length l.self.locals;
  ended : HaveEnded l.ended l.self.locals;
  callers : length l.self.locals ≡ length l.fn.self.locals;
  stands : (c : Setup) (opening : List Call) (calls : List (List Call)) (w : World) → IsStanding c opening calls w l.fn.self → (v : World) × IsStanding c opening calls v l.self × (finish (100000000 - l.counter) v ≡ finish most_events w) × (v ≡ finish l.counter w);
}
