use Rattle.std.proofs.Common.{◌∙◌, true, length, drop, ap, sym, subst, arith}
use Rattle.vm_model.specs.Bits.{leading_free}
use Rattle.chunk_bitmaps.specs.Bitmap.{IsNextBit}
use Rattle.chunk_bitmaps.proofs.FirstFits.{leading_free-next}
use Rattle.chunk_bitmaps.proofs.TakenBits.{taken_is, bits_are}
use Rattle.chunk_bitmaps.proofs.chunk_bits.ChunkBits.run_at.Goals as goal

pub returns : goal.returns
returns c =
    let taken = c.self.inside.taken in
    let long = bits_are taken c.self.inside.bounds c.args.self.now c.self.view_is in
    let next : IsNextBit taken true c.args.at (length taken) c.find_next.result = subst (λ end. IsNextBit taken true c.args.at end c.find_next.result) c.len.ensures.len c.find_next.ensures in
    sym (leading_free-next taken c.args.at c.find_next.result (omega arith) next)
    ∙ ap (λ bs. leading_free (drop c.args.at bs)) (taken_is taken c.self.inside.bounds c.args.self.now c.self.view_is c.self.invariant)
