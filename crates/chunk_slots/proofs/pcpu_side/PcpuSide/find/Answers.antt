use Rattle.std.proofs.Common.{Some, None, ap, sym, ◌∙◌, subst, arith}
use Rattle.vm_model.specs.PlainMap.{Chunk}
use Rattle.chunk_slots.specs.Rising.{index_by, IsRising}
use Rattle.chunk_slots.specs.KeptObjects.{holder_in}
use Rattle.chunk_slots.specs.ChunkRegion.{ChunkRegion}
use Rattle.chunk_slots.proofs.RowLists.{index_in_view, rises_in_view}
use Rattle.chunk_slots.proofs.SideStaysKept.{rows_few}
use Rattle.chunk_slots.proofs.SideCalls.{found_row, index_of_call}
use Rattle.chunk_slots.proofs.pcpu_side.PcpuSide.find.Goals as goal

pub overflow_cast-result : goal.overflow_cast-result
overflow_cast-result c =
    let found = found_row c.args.chunk c.from.result c.in-Some.index c.index_of.result c.self.inside.chunks.items c.deref.result.now c.self.invariant.numbers c.deref.ensures.value c.from.ensures c.index_of.ensures c.in-Some.is in
    let within = found.within in let few = rows_few c.self.invariant in
    omega arith

pub returns-in-Some-clause-index : goal.returns-in-Some-clause-index
returns-in-Some-clause-index c =
    sym (index_of_call c.args.chunk c.from.result c.index_of.result (Some c.in-Some.index) c.self.inside.chunks.items c.deref.result.now c.deref.ensures.value c.from.ensures c.index_of.ensures c.in-Some.is)
    ∙ sym (index_in_view (holder_in c.self.inside.holders) c.args.chunk c.self.inside.chunks.items)
    ∙ ap (λ (r : ChunkRegion). index_by (λ (h : Chunk). h.number) c.args.chunk r.chunks) c.self.view_is

pub returns-in-None-clause-index : goal.returns-in-None-clause-index
returns-in-None-clause-index c =
    sym (index_of_call c.args.chunk c.from.result c.index_of.result None c.self.inside.chunks.items c.deref.result.now c.deref.ensures.value c.from.ensures c.index_of.ensures c.in-None.is)
    ∙ sym (index_in_view (holder_in c.self.inside.holders) c.args.chunk c.self.inside.chunks.items)
    ∙ ap (λ (r : ChunkRegion). index_by (λ (h : Chunk). h.number) c.args.chunk r.chunks) c.self.view_is

pub returns-in-Some-clause-rising : goal.returns-in-Some-clause-rising
returns-in-Some-clause-rising c =
    subst (λ (r : ChunkRegion). IsRising (λ (h : Chunk). h.number) r.chunks) c.self.view_is (rises_in_view (holder_in c.self.inside.holders) 0 c.self.inside.chunks.items c.self.invariant.numbers)

pub returns-in-None-clause-rising : goal.returns-in-None-clause-rising
returns-in-None-clause-rising c =
    subst (λ (r : ChunkRegion). IsRising (λ (h : Chunk). h.number) r.chunks) c.self.view_is (rises_in_view (holder_in c.self.inside.holders) 0 c.self.inside.chunks.items c.self.invariant.numbers)
