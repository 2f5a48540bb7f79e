use Rattle.std.proofs.Common.{◌≡◌, ◌*◌, ◌/◌, ◌%◌, option_map, ap, sym, ◌∙◌}
use Rattle.vm_model.specs.declared.areas.Span.{Span}
use Rattle.chunk_bitmaps.specs.ChunkMap.{object_bits_at}
use Rattle.chunk_slots.specs.KeptChunks.{bytes_at}
use Rattle.chunk_slots.proofs.ChunkViews.{bytes_by_bits, no_odd_offset}
use Rattle.chunk_slots.proofs.kept_chunk.KeptChunk.object_at.Goals as goal

pub returns-then-off-ne0 : goal.returns-then-off-ne0
returns-then-off-ne0 c =
    sym (ap (option_map (λ (s : Span). 4 * s.pages)) (no_odd_offset c.args.off c.self.inside.bits.objects c.if-off-ne0.true)) ∙ ap (bytes_at c.args.off) c.self.view_is

pub returns-in_err-bits : goal.returns-in_err-bits
returns-in_err-bits c =
    let words : c.args.off % 4 ≡ 0 = c.if-off-ne0.false in
    c.from_residual.ensures
    ∙ ap (option_map (λ b. 4 * b)) (sym c.in_err-bits.was ∙ c.object_at.ensures.bits ∙ ap (object_bits_at (c.args.off / 4)) c.bits.ensures)
    ∙ bytes_by_bits c.args.off c.self.inside.bits.objects words ∙ ap (bytes_at c.args.off) c.self.view_is

pub returns : goal.returns
returns c =
    let words : c.args.off % 4 ≡ 0 = c.if-off-ne0.false in
    ap (option_map (λ b. 4 * b)) (sym c.in_ok-bits.was ∙ c.object_at.ensures.bits ∙ ap (object_bits_at (c.args.off / 4)) c.bits.ensures)
    ∙ bytes_by_bits c.args.off c.self.inside.bits.objects words ∙ ap (bytes_at c.args.off) c.self.view_is
