use Rattle.std.proofs.Common.{◌≡◌, ℕ, suc, ◌+◌, ◌-◌, ◌/◌, ◌≤◌, not, filter, ap, ◌∙◌, arith}
use Rattle.vm_model.specs.Frames.{pages_of_bytes}
use Rattle.chunk_slots.specs.KeptChunks.{KeptRow, has_populated}
use Rattle.chunk_slots.proofs.FreeBits.{missing_told}
use Rattle.chunk_slots.proofs.kept_chunk.KeptChunk.missing.Goals as goal

pub returns : goal.returns
returns c =
    let i = c.self.inside in
    let size : i.bits.bits ≡ c.args.self.now.bits.bits = ap (λ (row : KeptRow). row.bits.bits) c.self.view_is in
    let first : ℕ = c.args.off / 4096 in
    let n : ℕ = suc ((c.args.off + c.args.bytes - 1) / 4096) - c.args.off / 4096 in
    let within : first + n ≤ i.pages = omega (arith, size, c.self.invariant.size, c.requires.some, c.requires.within) in
    missing_told i.pages i.number i.base i.populated c.pages_of_object.result c.without.result i.bits n first within c.pages_of_object.ensures.pages c.without.ensures
    ∙ ap (λ (row : KeptRow). filter (λ page. not (has_populated row page)) (pages_of_bytes c.args.off c.args.bytes)) c.self.view_is
