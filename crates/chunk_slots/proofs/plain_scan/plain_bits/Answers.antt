use Rattle.std.proofs.Common.{◌∙◌, arith}
use Rattle.std.proofs.lemmas.List.{take_all}
use Rattle.chunk_bitmaps.specs.ChunkMap.{taken_bits}
use Rattle.chunk_slots.proofs.FreeBits.{length-taken}
use Rattle.chunk_slots.proofs.PlainScans.{one_more}
use Rattle.chunk_slots.proofs.plain_scan.plain_bits.Goals as goal

pub loop-place-preserved : goal.loop-place-preserved
loop-place-preserved c =
    c.in_ok-push.ensures.items
    ∙ one_more (taken_bits c.args.bits.now) c.loop-place.place c.is_free.result c.loop-place.plain.items (omega (arith, c.len-place-end.ensures.len, length-taken c.args.bits.now, c.loop-place-test.true)) c.is_free.ensures c.loop-place.invariant

pub returns : goal.returns
returns c =
    c.loop-place.invariant ∙ take_all c.loop-place.place (taken_bits c.args.bits.now) (omega (arith, c.len-place-end.ensures.len, length-taken c.args.bits.now, c.loop-place-test.false))
