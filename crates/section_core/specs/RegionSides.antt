-- The code's regions as those of the definitions.
use Rattle.vm_model.specs.Parts as parts
use Rattle.vm_model.specs.Parts.{Region, PurgeTurn, AllocTurn, FreeRuns, LiveAreas, WaitingSpans, CpuBlocks}
use Rattle.augmented_tree.specs.FreeBlocks.{FreeBlocks}
use Rattle.busy_areas.specs.LiveAreaRows.{LiveRows}
use Rattle.page_pool.specs.PageMap.{Pages as Held}
use Rattle.map_blocks.specs.BlockRows.{BlockRows}
use Rattle.chunk_slots.specs.ChunkRegion.{ChunkRegion}
use Rattle.section_core.specs.declared.region.Side.{Side}
use Rattle.section_core.specs.declared.region.Side.TheVariants.{Desk, Purge, Alloc, Free, Busy, Lazy, Pages, Percpu, Blocks}

-- the region of each side
abbrev pub free_region : FreeBlocks → Region
free_region side = FreeRuns side.blocks

abbrev pub areas_region : LiveRows → Region
areas_region side = LiveAreas side.areas side.next

abbrev pub pages_region : Held → Region
pages_region side = parts.Pages side.frames side.stale side.cells

abbrev pub blocks_region : BlockRows → Region
blocks_region side = CpuBlocks side.cpu side.pages side.blocks side.next

abbrev pub percpu_region : ChunkRegion → Region
percpu_region side = parts.Percpu side.chunks side.next_object side.next_chunk side.room

abbrev pub region_of : Side → Region
region_of Desk = parts.Desk
region_of (Purge turn) = PurgeTurn turn
region_of (Alloc turn) = AllocTurn turn
region_of (Free side) = free_region side
region_of (Busy side) = areas_region side
region_of (Lazy side) = WaitingSpans side
region_of (Pages side) = pages_region side
region_of (Percpu side) = percpu_region side
region_of (Blocks side) = blocks_region side
