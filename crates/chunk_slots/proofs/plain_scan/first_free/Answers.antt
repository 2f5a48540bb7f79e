use Rattle.std.proofs.Common.{◌<◌, false, not, length, map, ap, ◌∙◌, arith}
use Rattle.std.proofs.lemmas.List.{length-map, get_or-map}
use Rattle.chunk_slots.proofs.PlainScans.{one_free, one_taken}
use Rattle.chunk_slots.proofs.plain_scan.first_free.Goals as goal

pub returns-then-not-bits-place : goal.returns-then-not-bits-place
returns-then-not-bits-place c =
    let low : c.loop-place.place < length (map not c.args.bits.now) = omega (arith, length-map c.args.bits.now not, c.loop-place-test.true) in
    one_taken (map not c.args.bits.now) c.loop-place.place false low (get_or-map not c.args.bits.now c.loop-place.place false false c.loop-place-test.true ∙ ap not c.if-not-bits-place.true) c.loop-place.invariant

pub loop-place-preserved : goal.loop-place-preserved
loop-place-preserved c =
    let low : c.loop-place.place < length (map not c.args.bits.now) = omega (arith, length-map c.args.bits.now not, c.loop-place-test.true) in
    one_free (map not c.args.bits.now) c.loop-place.place false low (get_or-map not c.args.bits.now c.loop-place.place false false c.loop-place-test.true ∙ ap not c.if-not-bits-place.false) c.loop-place.invariant
