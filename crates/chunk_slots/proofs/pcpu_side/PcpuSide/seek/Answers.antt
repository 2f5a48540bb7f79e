use Rattle.std.proofs.Common.{◌≡◌, ◌+◌, ◌<◌, List, length, flat_map, drop, get_or, ap, sym, ◌∙◌, arith}
use Rattle.vm_model.specs.Tables.{object_rows}
use Rattle.chunk_slots.specs.KeptObjects.{holder_in}
use Rattle.chunk_slots.specs.KeptChunks.{KeptRow}
use Rattle.chunk_slots.specs.KeptChunkSides.{chunks_in}
use Rattle.chunk_slots.specs.ChunkRegion.{ChunkRegion, object_table}
use Rattle.chunk_slots.specs.LiveObjectRows.{live_rows, seek}
use Rattle.chunk_slots.proofs.LiveObjects.{seek_found, seek_on, rest_of_rows}
use Rattle.chunk_slots.proofs.pcpu_side.PcpuSide.seek.Goals as goal

pub returns-in-Found : goal.returns-in-Found
returns-in-Found c =
    let i = c.self.inside in let h = holder_in i.holders in let at = c.loop-chunk.chunk-index in let row = c.chunk-item.result in
    let is : row ≡ get_or i.chunks.items at row = c.chunk-item.is ∙ ap (λ (xs : List KeptRow). get_or xs at row) c.deref-chunk-items.ensures.value in
    let low : at < length i.chunks.items = let test = c.loop-chunk-test.true in let long = ap length c.deref-chunk-items.ensures.value in let end = c.loop-chunk.auto.chunk-index-end in omega arith in
    sym (ap (λ (r : ChunkRegion). seek (object_table r) c.args.skip) (sym c.self.view_is)
    ∙ c.loop-chunk.invariant
    ∙ ap (λ rows. seek rows c.loop-chunk.left) (rest_of_rows h i.chunks.items at row low is)
    ∙ seek_found (live_rows h row) (flat_map object_rows (chunks_in h (drop (at + 1) i.chunks.items))) c.loop-chunk.left c.in-Found.row (sym c.seek_in.ensures ∙ c.in-Found.is))

pub loop-chunk-preserved : goal.loop-chunk-preserved
loop-chunk-preserved c =
    let i = c.self.inside in let h = holder_in i.holders in let at = c.loop-chunk.chunk-index in let row = c.chunk-item.result in
    let is : row ≡ get_or i.chunks.items at row = c.chunk-item.is ∙ ap (λ (xs : List KeptRow). get_or xs at row) c.deref-chunk-items.ensures.value in
    let low : at < length i.chunks.items = let test = c.loop-chunk-test.true in let long = ap length c.deref-chunk-items.ensures.value in let end = c.loop-chunk.auto.chunk-index-end in omega arith in
    c.loop-chunk.invariant
    ∙ ap (λ rows. seek rows c.loop-chunk.left) (rest_of_rows h i.chunks.items at row low is)
    ∙ seek_on (live_rows h row) (flat_map object_rows (chunks_in h (drop (at + 1) i.chunks.items))) c.loop-chunk.left c.in-Past.rest (sym c.seek_in.ensures ∙ c.in-Past.is)
