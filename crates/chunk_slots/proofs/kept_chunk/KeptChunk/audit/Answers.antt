use Rattle.std.proofs.Common.{◌*◌, ◌&&◌, length, filter, drop, ap, sym, ◌∙◌, arith}
use Rattle.vm_model.specs.declared.areas.Span.{Span}
use Rattle.vm_model.specs.PageSets.{has_page}
use Rattle.vm_model.specs.Space.{longest, count_from, begins_free}
use Rattle.vm_model.specs.Bits.{slot_of}
use Rattle.chunk_bitmaps.specs.ChunkMap.{taken_bits}
use Rattle.chunk_slots.specs.KeptChunks.{KeptRow, audit_of}
use Rattle.chunk_slots.proofs.FreeBits.{length-taken, empty_told}
use Rattle.chunk_slots.proofs.PlainScans.{same_audit}
use Rattle.chunk_slots.proofs.kept_chunk.KeptChunk.audit.Goals as goal

pub plain_longest-run_start-requires : goal.plain_longest-run_start-requires
plain_longest-run_start-requires c =
    let i = c.self.inside in
    let same = ap length (c.requires ∙ ap (λ (r : KeptRow). taken_bits r.bits) (sym c.self.view_is)) in
    omega (arith, same, length-taken i.bits, c.self.invariant.size, c.self.invariant.most)

pub plain_slot-requires : goal.plain_slot-requires
plain_slot-requires c =
    let i = c.self.inside in
    let same = ap length (c.requires ∙ ap (λ (r : KeptRow). taken_bits r.bits) (sym c.self.view_is)) in
    omega (arith, same, length-taken i.bits, c.self.invariant.size, c.self.invariant.most)

pub plain_empty-requires-clause-size : goal.plain_empty-requires-clause-size
plain_empty-requires-clause-size c =
    let i = c.self.inside in
    ap length (c.requires ∙ ap (λ (r : KeptRow). taken_bits r.bits) (sym c.self.view_is)) ∙ length-taken i.bits ∙ c.self.invariant.size

pub returns : goal.returns
returns c =
    let i = c.self.inside in
    let same = c.requires ∙ ap (λ (r : KeptRow). taken_bits r.bits) (sym c.self.view_is) in
    same_audit i.number c.plain_longest-run_start.result.0 (longest (taken_bits i.bits)).start c.plain_longest-run_start.result.1 (longest (taken_bits i.bits)).pages c.plain_slot.result (slot_of (taken_bits i.bits)) c.plain_empty.result _
    (ap (λ (s : Span). s.start) (c.plain_longest-run_start.ensures ∙ ap longest same)) (ap (λ (s : Span). s.pages) (c.plain_longest-run_start.ensures ∙ ap longest same))
    (c.plain_slot.ensures ∙ ap slot_of same)
    (empty_told i.pages i.number i.base i.populated i.bits c.plain_empty.result
    (c.plain_empty.ensures ∙ ap (λ bits. length (filter (λ page. begins_free 1024 (drop (1024 * page) bits) && has_page i.populated page) (count_from i.pages 0))) same))
    ∙ ap audit_of c.self.view_is
