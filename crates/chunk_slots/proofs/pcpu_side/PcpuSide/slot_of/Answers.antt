use Rattle.std.proofs.Common.{ℕ, List, length, slice_get, Option, Some, option_map, ap, sym, ◌∙◌, arith}
use Rattle.vm_model.specs.PlainMap.{Chunk}
use Rattle.vm_model.specs.Chunks.{chunks_numbered, slot}
use Rattle.chunk_slots.specs.KeptObjects.{holder_in}
use Rattle.chunk_slots.specs.KeptChunks.{slot_in}
use Rattle.chunk_slots.specs.KeptChunkSides.{IsKeptRow}
use Rattle.chunk_slots.specs.ChunkRegion.{ChunkRegion, unit_of}
use Rattle.chunk_slots.proofs.ChunkViews.{slot_in_view}
use Rattle.chunk_slots.proofs.RowLists.{each_at, numbered_none}
use Rattle.chunk_slots.proofs.SideCalls.{found_row, missing_row, numbered_row}
use Rattle.chunk_slots.proofs.pcpu_side.PcpuSide.slot_of.Goals as goal

first_slot : ℕ → List Chunk → Option ℕ
first_slot pages chunks = option_map (slot (unit_of pages)) (slice_get chunks 0)

pub returns-in_err-index : goal.returns-in_err-index
unfolding first_slot
returns-in_err-index c =
    let i = c.self.inside in
    c.from_residual.ensures
    ∙ sym (ap (first_slot i.unit_pages) (numbered_none (holder_in i.holders) c.args.chunk i.chunks.items (missing_row c.args.chunk c.from.result c.index_of.result i.chunks.items c.deref.result.now c.deref.ensures.value c.from.ensures c.index_of.ensures c.in_err-index.was)))
    ∙ ap (λ (r : ChunkRegion). first_slot r.unit_pages (chunks_numbered c.args.chunk r.chunks)) c.self.view_is

pub index-requires : goal.index-requires
index-requires c =
    let found = found_row c.args.chunk c.from.result c.in_ok-index.index c.index_of.result c.self.inside.chunks.items c.deref.result.now c.self.invariant.numbers c.deref.ensures.value c.from.ensures c.index_of.ensures c.in_ok-index.was in
    let within = found.within in let long = ap length c.deref.ensures.value in
    omega arith

pub returns : goal.returns
unfolding first_slot
returns c =
    let i = c.self.inside in
    let found = found_row c.args.chunk c.from.result c.in_ok-index.index c.index_of.result i.chunks.items c.deref.result.now c.self.invariant.numbers c.deref.ensures.value c.from.ensures c.index_of.ensures c.in_ok-index.was in
    let kept = each_at (IsKeptRow i.unit_pages i.next_chunk (holder_in i.holders)) c.in_ok-index.index i.chunks.items found.row c.self.invariant.rows_are found.there in
    ap Some (c.slot.ensures ∙ ap slot_in (found.read c.index.result.now c.index.ensures) ∙ sym (slot_in_view i.unit_pages (holder_in i.holders) found.row kept.bits_are))
    ∙ sym (ap (first_slot i.unit_pages) (numbered_row (holder_in i.holders) c.args.chunk c.in_ok-index.index i.chunks.items c.self.invariant.numbers found))
    ∙ ap (λ (r : ChunkRegion). first_slot r.unit_pages (chunks_numbered c.args.chunk r.chunks)) c.self.view_is
