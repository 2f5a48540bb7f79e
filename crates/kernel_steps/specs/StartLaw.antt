-- The law of a kernel's start.
use Rattle.std.specs.Prelude.{◌≡◌, ◌+◌, List, length}
use Rattle.vm_model.specs.declared.calls.Call.{Call}
use Rattle.vm_model.specs.Setup.{Setup}
use Rattle.kernel_steps.specs.Kernels.{start_of, callers_of}

-- the opening is a caller, and so is each list of calls behind it
abbrev pub TheStartHasAllCallers : Type 0
TheStartHasAllCallers = (c : Setup) (sections : List (List Call)) → length (start_of c sections).locals ≡ 1 + length (callers_of sections)
