use Rattle.std.proofs.Common.{◌≡◌, List, length, take}
use Rattle.vm_model.specs.declared.calls.Call.{Call}
use Rattle.vm_model.specs.Setup.{Setup}
use Rattle.vm_model.specs.History.{World, pick_all}
use Rattle.kernel_steps.specs.Kernels.{IsStanding}
use Rattle.kernel_steps.proofs.kernel.Kernel.run.Given as goal

abbrev pub invariant-loop-pick : goal.invariant-loop-pick
invariant-loop-pick l = record {
  callers : length l.self.locals ≡ length l.fn.self.locals;
  stands : (c : Setup) (opening : List Call) (calls : List (List Call)) (w : World) → IsStanding c opening calls w l.fn.self → IsStanding c opening calls (pick_all w (take l.pick-index l.picks)) l.self;
}
