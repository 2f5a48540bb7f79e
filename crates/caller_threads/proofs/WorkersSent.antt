-- A worker may go to another thread.
use denote.Param.Send.{IsSend, sendable}
use denote.Param.SendFields.{declared_send}
use Rattle.std.proofs.Crossing.{crosses}
use Rattle.callers.proofs.local.Local.TheSendSync as caller
use Rattle.callers.specs.contracts.local.Local as local
use Rattle.count_lines.proofs.share.Share.TheSendSync as sharing
use Rattle.count_lines.specs.contracts.share.Share as share
use Rattle.section_core.proofs.RegionsSent.{region_send}
use Rattle.section_table.proofs.pass.Pass.TheSendSync as passing
use Rattle.caller_threads.specs.contracts.worker.Worker as worker

local_send : IsSend local.the_row
local_send = caller.the_send

share_send : IsSend share.the_row
share_send = sharing.the_send

pub worker_send : IsSend worker.the_row
worker_send = declared_send worker.the_type (search (sendable, crosses, region_send, local_send, passing.the_send) depth 20, (search (sendable, crosses, share_send) depth 20, (search (sendable, crosses) depth 20, tt)))
