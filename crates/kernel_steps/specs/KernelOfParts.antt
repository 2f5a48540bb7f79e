-- The kernel that parts make.
use Rattle.kernel_steps.specs.declared.parts.KernelParts.{KernelParts}
use Rattle.kernel_steps.specs.Kernels.{KernelState}

abbrev pub kernel_of : KernelParts → KernelState
kernel_of parts = record { regions = parts.regions.items; locals = parts.locals.items; moved = parts.moved.items }
