use Rattle.std.proofs.Common.{◌+◌, ◌++◌, drop, flat_map, append_assoc, refl, ap, sym, ◌∙◌}
use Rattle.std.proofs.lemmas.List.{at_drop_more}
use Rattle.chunk_slots.specs.KeptObjects.{holder_in}
use Rattle.chunk_slots.specs.KeptChunks.{hints_of}
use Rattle.chunk_slots.specs.ChunkRegion.{hint_table}
use Rattle.chunk_slots.proofs.TableViews.{finished, hints_told}
use Rattle.chunk_slots.proofs.pcpu_side.PcpuSide.hint_rows.Goals as goal

pub loop-chunk-preserved : goal.loop-chunk-preserved
loop-chunk-preserved c =
    let items = c.deref-chunk-items.result.now in let index = c.loop-chunk.chunk-index in let rest = flat_map hints_of (drop (index + 1) items) in
    ap (λ rows. rows ++ rest) c.in_ok-push_hints.ensures
    ∙ append_assoc c.loop-chunk.rows.items (hints_of c.chunk-item.result) rest
    ∙ ap (λ r. c.loop-chunk.rows.items ++ (hints_of r ++ rest)) c.chunk-item.is
    ∙ ap (λ rows. c.loop-chunk.rows.items ++ rows) (sym (at_drop_more (flat_map hints_of) items index c.chunk-item.result c.loop-chunk-test.true))
    ∙ c.loop-chunk.invariant

pub returns : goal.returns
returns c =
    let i = c.self.inside in
    finished (flat_map hints_of) c.loop-chunk.rows.items c.deref-chunk-items.result.now c.loop-chunk.chunk-index refl c.loop-chunk-test.false c.loop-chunk.invariant
    ∙ ap (flat_map hints_of) c.deref-chunk-items.ensures.value
    ∙ hints_told i.unit_pages i.next_chunk (holder_in i.holders) i.chunks.items c.self.invariant.rows_are
    ∙ ap hint_table c.self.view_is
