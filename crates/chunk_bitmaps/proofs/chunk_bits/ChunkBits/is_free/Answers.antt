use Rattle.std.proofs.Common.{◌∙◌, drop, ap, arith}
use Rattle.vm_model.specs.Space.{begins_free}
use Rattle.chunk_bitmaps.proofs.FirstFits.{free_by_next}
use Rattle.chunk_bitmaps.proofs.TakenBits.{taken_is, bits_are}
use Rattle.chunk_bitmaps.proofs.chunk_bits.ChunkBits.is_free.Goals as goal

pub returns : goal.returns
returns c =
    let taken = c.self.inside.taken in
    let long = bits_are taken c.self.inside.bounds c.args.self.now c.self.view_is in
    free_by_next taken c.args.at c.args.bits c.find_next.result (omega arith) c.find_next.ensures
    ∙ ap (λ bs. begins_free c.args.bits (drop c.args.at bs)) (taken_is taken c.self.inside.bounds c.args.self.now c.self.view_is c.self.invariant)
