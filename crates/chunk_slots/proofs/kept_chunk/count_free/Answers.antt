use Rattle.std.proofs.Common.{◌≡◌, ◌≤◌, true, false, length, sym, ◌∙◌, subst, arith}
use Rattle.chunk_bitmaps.specs.Bitmap.{IsNextBit}
use Rattle.chunk_bitmaps.specs.ChunkMap.{taken_bits}
use Rattle.chunk_slots.proofs.FreeBits.{length-taken}
use Rattle.chunk_slots.proofs.CountedBits.{counted_on, all_counted}
use Rattle.chunk_slots.proofs.kept_chunk.count_free.Goals as goal

pub loop-place-preserved : goal.loop-place-preserved
loop-place-preserved c =
    let bits = taken_bits c.args.bits.now in
    let all : c.len-end.result ≡ length bits = c.len-end.ensures.len ∙ sym (length-taken c.args.bits.now) in
    counted_on bits c.loop-place.place c.loop-place.free c.find_next-start.result c.find_next-place.result c.loop-place.invariant
    (subst (λ end. IsNextBit bits false c.loop-place.place end c.find_next-start.result) all c.find_next-start.ensures)
    (subst (λ end. IsNextBit bits true c.find_next-start.result end c.find_next-place.result) all c.find_next-place.ensures)

pub returns : goal.returns
returns c =
    let bits = taken_bits c.args.bits.now in
    let all : c.len-end.result ≡ length bits = c.len-end.ensures.len ∙ sym (length-taken c.args.bits.now) in
    let past : length bits ≤ c.loop-place.place = omega (arith, c.loop-place-test.false, all) in
    all_counted bits c.loop-place.place c.loop-place.free past c.loop-place.invariant
