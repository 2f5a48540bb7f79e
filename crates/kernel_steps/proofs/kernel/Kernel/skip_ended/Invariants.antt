use Rattle.std.proofs.Common.{◌≤◌, ◌-◌, length}
use Rattle.kernel_steps.specs.Kernels.{HaveEnded}
use Rattle.kernel_steps.proofs.kernel.Kernel.skip_ended.Given as goal

abbrev pub invariant-loop-caller : goal.invariant-loop-caller
invariant-loop-caller l = record { within : l.caller ≤ length l.self.locals; ended : HaveEnded l.caller l.self.locals }

abbrev pub decreases-loop-caller : goal.decreases-loop-caller
decreases-loop-caller l = length l.self.locals - l.caller
