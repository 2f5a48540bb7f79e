use denote.Param.Send.{sendable}
use Rattle.section_core.proofs.RegionsSent.{region_send}
use Rattle.kernel_steps.proofs.KernelsSent.{kernel_send}
use Rattle.kernel_steps.proofs.laws.all_are_sent.Goals as goal

pub is_sent-requires-send-T : goal.is_sent-requires-send-T
is_sent-requires-send-T c κs = search (sendable, region_send) depth 20

pub is_sent-requires-3-send-T : goal.is_sent-requires-3-send-T
is_sent-requires-3-send-T c κs = search (sendable, kernel_send) depth 20
