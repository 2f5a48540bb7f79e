use Rattle.std.proofs.Common.{◌≡◌, ap, ◌∙◌, arith}
use Rattle.vm_model.specs.Space.{longest}
use Rattle.vm_model.specs.Bits.{free_count, slot_of}
use Rattle.vm_model.specs.declared.rows.Hint.{Hint}
use Rattle.chunk_bitmaps.specs.ChunkMap.{ChunkMap, taken_bits}
use Rattle.chunk_slots.specs.KeptChunks.{row_of}
use Rattle.vm_model.proofs.SlotByRun.{few_free}
use Rattle.chunk_slots.proofs.FreeBits.{length-taken, populated_told, same_row}
use Rattle.chunk_slots.proofs.kept_chunk.KeptChunk.row.Goals as goal

pub overflow_mul-result : goal.overflow_mul-result
overflow_mul-result c =
    let bits : ChunkMap = c.self.inside.bits in
    let free : c.count_free.result ≡ free_count (taken_bits bits) = c.count_free.ensures ∙ ap (λ (m : ChunkMap). free_count (taken_bits m)) c.bits.ensures in
    omega (arith, free, few_free (taken_bits bits), length-taken bits, c.self.invariant.size, c.self.invariant.most)

pub returns : goal.returns
returns c =
    let i = c.self.inside in
    let free : c.count_free.result ≡ free_count (taken_bits i.bits) = c.count_free.ensures ∙ ap (λ (m : ChunkMap). free_count (taken_bits m)) c.bits.ensures in
    same_row i.number i.base i.slot (slot_of (taken_bits i.bits)) c.count_free.result (free_count (taken_bits i.bits)) c.count.result _ i.empty _ c.longest-longest.result.run_start (longest (taken_bits i.bits)).start
    c.longest-longest.result.run (longest (taken_bits i.bits)).pages c.self.invariant.slot_is free (c.count.ensures ∙ populated_told i.pages i.number i.base i.populated i.bits) c.self.invariant.empty_is
    (ap (λ (h : Hint). h.run_start) c.longest-longest.ensures) (ap (λ (h : Hint). h.run) c.longest-longest.ensures)
    ∙ ap row_of c.self.view_is
