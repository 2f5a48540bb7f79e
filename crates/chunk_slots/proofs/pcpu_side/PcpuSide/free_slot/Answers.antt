use Rattle.std.proofs.Common.{◌≡◌, ◌+◌, ◌==◌, filter, length, ap, ◌∙◌, subst}
use Rattle.vm_model.specs.PlainMap.{Chunk}
use Rattle.vm_model.specs.Chunks.{slot}
use Rattle.chunk_slots.specs.KeptObjects.{holder_in}
use Rattle.chunk_slots.specs.KeptChunkSides.{chunks_in}
use Rattle.chunk_slots.specs.ChunkRegion.{ChunkRegion, unit_of, setup_of}
use Rattle.chunk_slots.proofs.FreeSlots.{free_in_view}
use Rattle.chunk_slots.proofs.pcpu_side.PcpuSide.free_slot.Goals as goal

pub returns-clause-free : goal.returns-clause-free
returns-clause-free c =
    let i = c.self.inside in let h = holder_in i.holders in
    subst (λ (r : ChunkRegion). filter (λ k. slot (setup_of r) k == c.slot_for.result + 2) r.chunks ≡ filter (λ (k : Chunk). length k.objects == 0) r.chunks) c.self.view_is
    (ap (λ n. filter (λ k. slot (unit_of i.unit_pages) k == n + 2) (chunks_in h i.chunks.items)) c.slot_for.ensures.slot
    ∙ free_in_view i.unit_pages i.next_chunk h i.chunks.items c.self.invariant.least c.self.invariant.rows_are)
