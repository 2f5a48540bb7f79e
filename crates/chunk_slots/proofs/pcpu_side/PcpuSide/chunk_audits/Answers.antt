use Rattle.std.proofs.Common.{map, refl, ap, ◌∙◌}
use Rattle.chunk_slots.specs.KeptObjects.{holder_in}
use Rattle.chunk_slots.specs.KeptChunks.{audit_of}
use Rattle.chunk_slots.specs.ChunkRegion.{audit_table}
use Rattle.chunk_slots.proofs.TableViews.{finished, audits_told}
use Rattle.chunk_slots.proofs.pcpu_side.PcpuSide.chunk_audits.Goals as goal

pub returns : goal.returns
returns c =
    let i = c.self.inside in
    finished (map audit_of) c.loop-chunk.rows.items c.deref-chunk-items.result.now c.loop-chunk.chunk-index refl c.loop-chunk-test.false c.loop-chunk.invariant
    ∙ ap (map audit_of) c.deref-chunk-items.ensures.value
    ∙ audits_told i.unit_pages i.next_chunk (holder_in i.holders) i.chunks.items c.self.invariant.rows_are
    ∙ ap audit_table c.self.view_is
