use Rattle.std.proofs.Common.{◌<◌, All, subst, arith}
use Rattle.vm_model.specs.PlainMap.{Chunk}
use Rattle.chunk_slots.specs.Rising.{IsRising}
use Rattle.chunk_slots.specs.KeptObjects.{holder_in}
use Rattle.chunk_slots.specs.ChunkRegion.{ChunkRegion}
use Rattle.chunk_slots.proofs.RowLists.{rises_in_view, small_in_view}
use Rattle.chunk_slots.proofs.SideStaysKept.{rows_few, are_low}
use Rattle.chunk_slots.proofs.pcpu_side.PcpuSide.chunks.Goals as goal

pub overflow_cast-result : goal.overflow_cast-result
overflow_cast-result c = omega (arith, rows_few c.self.invariant, c.self.inside.chunks.ok.0)

pub returns-clause-rising : goal.returns-clause-rising
returns-clause-rising c =
    subst (λ (r : ChunkRegion). IsRising (λ (h : Chunk). h.number) r.chunks) c.self.view_is (rises_in_view (holder_in c.self.inside.holders) 0 c.self.inside.chunks.items c.self.invariant.numbers)

pub returns-clause-small : goal.returns-clause-small
returns-clause-small c =
    subst (λ (r : ChunkRegion). All (λ (h : Chunk). h.number < 4294967296) r.chunks) c.self.view_is (small_in_view (holder_in c.self.inside.holders) c.self.inside.chunks.items (are_low c.self.invariant))
