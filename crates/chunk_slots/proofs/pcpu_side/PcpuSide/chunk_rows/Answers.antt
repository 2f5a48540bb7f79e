use Rattle.std.proofs.Common.{map, refl, ap, ◌∙◌}
use Rattle.chunk_slots.specs.KeptObjects.{holder_in}
use Rattle.chunk_slots.specs.KeptChunks.{row_of}
use Rattle.chunk_slots.specs.ChunkRegion.{chunk_table}
use Rattle.chunk_slots.proofs.TableViews.{finished, rows_told}
use Rattle.chunk_slots.proofs.pcpu_side.PcpuSide.chunk_rows.Goals as goal

pub returns : goal.returns
returns c =
    let i = c.self.inside in
    finished (map row_of) c.loop-chunk.rows.items c.deref-chunk-items.result.now c.loop-chunk.chunk-index refl c.loop-chunk-test.false c.loop-chunk.invariant
    ∙ ap (map row_of) c.deref-chunk-items.ensures.value
    ∙ rows_told i.unit_pages i.next_chunk (holder_in i.holders) i.chunks.items c.self.invariant.rows_are
    ∙ ap chunk_table c.self.view_is
