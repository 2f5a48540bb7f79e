use Rattle.std.proofs.Common.{sym, subst}
use Rattle.chunk_slots.specs.KeptObjects.{holder_in}
use Rattle.chunk_slots.specs.ChunkRegion.{ChunkRegion, AreOfUnits}
use Rattle.chunk_slots.proofs.ChunkPages.{kept_again}
use Rattle.chunk_slots.proofs.pcpu_side.PcpuSide.set_unit_pages.Goals as goal

pub invariant_of-self : goal.invariant_of-self
invariant_of-self c =
    let i = c.self.inside in
    kept_again i.unit_pages c.args.unit_pages i.chunks.items i.slots.items (holder_in i.holders) i.empty i.next_object i.next_chunk i.spare _ _ c.self.invariant c.requires.least c.requires.most
    (subst (λ (r : ChunkRegion). AreOfUnits c.args.unit_pages r.chunks) (sym c.self.view_is) c.requires.chunks)
