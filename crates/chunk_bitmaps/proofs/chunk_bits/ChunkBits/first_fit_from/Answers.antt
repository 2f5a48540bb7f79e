use Rattle.std.proofs.Common.{◌∙◌, ◌≡◌, length, take, ap}
use Rattle.chunk_bitmaps.specs.ChunkMap.{first_fit, taken_bits}
use Rattle.chunk_bitmaps.proofs.FirstFits.{before_all}
use Rattle.chunk_bitmaps.proofs.TakenBits.{taken_is}
use Rattle.chunk_bitmaps.proofs.chunk_bits.ChunkBits.first_fit_from.Goals as goal

pub returns : goal.returns
returns c =
    let same = taken_is c.self.inside.taken c.self.inside.bounds c.args.self.now c.self.view_is c.self.invariant in
    let all : c.len.result ≡ length (taken_bits c.args.self.now) = c.len.ensures.len ∙ ap length same in
    c.first_fit_between.ensures ∙ ap (λ end. first_fit (take end (taken_bits c.args.self.now)) c.args.from c.args.bits c.args.align) all
    ∙ ap (λ bs. first_fit bs c.args.from c.args.bits c.args.align) (before_all (taken_bits c.args.self.now))
