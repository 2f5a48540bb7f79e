-- A region may go to another thread.
use denote.Hole.{as_row}
use denote.Param.Send.{IsSend, view_send, sendable}
use denote.Param.SendFields.{declared_send}
use Rattle.std.proofs.Crossing.{crosses}
use Rattle.augmented_tree.proofs.FreeBlocksSent.{free_side_send}
use Rattle.busy_areas.proofs.busy_side.BusySide.TheSendSync as busy_side
use Rattle.chunk_slots.proofs.pcpu_side.PcpuSide.TheSendSync as pcpu_side
use Rattle.lazy_purge.proofs.lazy_side.LazySide.TheSendSync as lazy_side
use Rattle.map_blocks.proofs.block_side.BlockSide.TheSendSync as block_side
use Rattle.page_pool.proofs.page_side.PageSide.TheSendSync as page_side
use Rattle.busy_areas.specs.contracts.busy_side.BusySide as busy
use Rattle.chunk_slots.specs.contracts.pcpu_side.PcpuSide as percpu
use Rattle.lazy_purge.specs.contracts.lazy_side.LazySide as lazy
use Rattle.map_blocks.specs.contracts.block_side.BlockSide as blocks
use Rattle.page_pool.specs.contracts.page_side.PageSide as pages
use Rattle.section_core.specs.contracts.region.Region as region
use Rattle.section_core.specs.contracts.region.Region.TheInside as inside
use Rattle.section_core.specs.contracts.region.Side as side

busy_send : IsSend busy.the_row
busy_send = busy_side.the_send

percpu_send : IsSend percpu.the_row
percpu_send = pcpu_side.the_send

lazy_send : IsSend lazy.the_row
lazy_send = lazy_side.the_send

blocks_send : IsSend blocks.the_row
blocks_send = block_side.the_send

pages_send : IsSend pages.the_row
pages_send = page_side.the_send

side_send : IsSend (as_row side.the_field)
side_send = search (sendable, crosses, free_side_send, busy_send, lazy_send, pages_send, percpu_send, blocks_send) depth 20

inside_send : IsSend inside.the_row
inside_send = declared_send inside.the_type (side_send, tt)

pub region_send : IsSend region.the_row
region_send = view_send inside.the_row _ _ _ _ inside_send
