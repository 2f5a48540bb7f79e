use Rattle.std.proofs.Common.{ap, ◌∙◌}
use Rattle.vm_model.specs.Chunks.{empty_count}
use Rattle.chunk_slots.specs.KeptObjects.{holder_in}
use Rattle.chunk_slots.specs.ChunkRegion.{ChunkRegion, unit_of}
use Rattle.chunk_slots.proofs.ChunkViews.{empty_total}
use Rattle.chunk_slots.proofs.pcpu_side.PcpuSide.empty_pages.Goals as goal

pub returns : goal.returns
returns c =
    let i = c.self.inside in
    c.self.invariant.empty_is ∙ empty_total i.unit_pages i.next_chunk (holder_in i.holders) i.chunks.items c.self.invariant.rows_are ∙ ap (λ (r : ChunkRegion). empty_count (unit_of r.unit_pages) r.chunks) c.self.view_is
