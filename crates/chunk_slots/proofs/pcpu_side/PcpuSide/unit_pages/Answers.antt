use Rattle.std.proofs.Common.{subst}
use Rattle.chunk_slots.specs.KeptObjects.{holder_in}
use Rattle.chunk_slots.specs.ChunkRegion.{ChunkRegion, AreOfUnits}
use Rattle.chunk_slots.proofs.ChunkPages.{units_kept}
use Rattle.chunk_slots.proofs.pcpu_side.PcpuSide.unit_pages.Goals as goal

pub returns-clause-chunks : goal.returns-clause-chunks
returns-clause-chunks c =
    let i = c.self.inside in
    subst (λ (r : ChunkRegion). AreOfUnits r.unit_pages r.chunks) c.self.view_is (units_kept i.unit_pages i.next_chunk (holder_in i.holders) i.chunks.items c.self.invariant.rows_are)
