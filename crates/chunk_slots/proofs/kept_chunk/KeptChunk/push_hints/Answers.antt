use Rattle.std.proofs.Common.{◌≡◌, ◌++◌, length, map, ap, sym, ◌∙◌, arith}
use Rattle.vm_model.specs.PageSets.{has_page}
use Rattle.vm_model.specs.Space.{count_from}
use Rattle.vm_model.specs.Tables.{hint_row}
use Rattle.vm_model.proofs.Tabulated.{length-tabulated}
use Rattle.chunk_bitmaps.specs.ChunkMap.{taken_bits}
use Rattle.chunk_slots.specs.KeptChunks.{KeptRow, hints_of}
use Rattle.chunk_slots.proofs.FreeBits.{length-taken}
use Rattle.chunk_slots.proofs.PlainScans.{one_hint}
use Rattle.chunk_slots.proofs.kept_chunk.KeptChunk.push_hints.Goals as goal

pub slice_bounds-plain_hint-end : goal.slice_bounds-plain_hint-end
slice_bounds-plain_hint-end c =
    let i = c.self.inside in
    let same = ap length (c.requires ∙ ap (λ (r : KeptRow). taken_bits r.bits) (sym c.self.view_is)) in
    omega (arith, same, length-taken i.bits, c.self.invariant.size, c.loop-block-test.true)

pub loop-block-preserved : goal.loop-block-preserved
loop-block-preserved c =
    let i = c.self.inside in
    one_hint i.number c.loop-block.block (taken_bits i.bits) c.args.plain.now c.hint.result c.plain_hint.result c.args.rows.now.items c.loop-block.rows.items c.push.new.self.items
    (c.requires ∙ ap (λ (r : KeptRow). taken_bits r.bits) (sym c.self.view_is)) c.hint.ensures c.plain_hint.ensures c.loop-block.invariant c.in_ok-push.ensures.items

pub returns : goal.returns
returns c =
    let i = c.self.inside in
    let all : c.loop-block.block ≡ i.pages = (let past = c.loop-block-test.false in let within = c.loop-block.auto.block-end in omega arith) in
    c.loop-block.invariant
    ∙ ap (λ n. c.args.rows.now.items ++ map (hint_row i.number (taken_bits i.bits)) (count_from n 0)) (all ∙ sym (length-tabulated (has_page i.populated) i.pages 0))
    ∙ ap (λ (r : KeptRow). c.args.rows.now.items ++ hints_of r) c.self.view_is
