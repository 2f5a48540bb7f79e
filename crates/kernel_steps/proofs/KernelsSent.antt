-- A kernel may go to another thread.
use denote.Param.Send.{IsSend, view_send, sendable}
use denote.Param.SendFields.{declared_send}
use Rattle.std.proofs.Crossing.{crosses}
use Rattle.callers.proofs.local.Local.TheSendSync as caller
use Rattle.callers.specs.contracts.local.Local as local
use Rattle.section_core.proofs.RegionsSent.{region_send}
use Rattle.kernel_steps.specs.contracts.kernel.Kernel as kernel
use Rattle.kernel_steps.specs.contracts.kernel.Kernel.TheInside as inside

local_send : IsSend local.the_row
local_send = caller.the_send

inside_send : IsSend inside.the_row
inside_send = declared_send inside.the_type (search (sendable, crosses) depth 20, (search (sendable, crosses, region_send) depth 20, (search (sendable, crosses, local_send) depth 20, (search (sendable, crosses) depth 20, tt))))

pub kernel_send : IsSend kernel.the_row
kernel_send = view_send inside.the_row _ _ _ _ inside_send
