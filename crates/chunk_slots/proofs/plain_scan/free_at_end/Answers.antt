use Rattle.std.proofs.Common.{◌<◌, false, length, reverse, ◌∙◌, arith}
use Rattle.std.proofs.lemmas.List.{length-reverse, get_or-reverse}
use Rattle.chunk_slots.proofs.PlainScans.{one_free, one_taken}
use Rattle.chunk_slots.proofs.plain_scan.free_at_end.Goals as goal

pub returns-then-bits-end : goal.returns-then-bits-end
returns-then-bits-end c =
    let low : c.loop-count.count < length (reverse c.args.bits.now) = omega (arith, length-reverse c.args.bits.now, c.loop-count-test.true) in
    one_taken (reverse c.args.bits.now) c.loop-count.count false low (get_or-reverse c.args.bits.now c.loop-count.count false c.loop-count-test.true ∙ c.if-bits-end.true) c.loop-count.invariant

pub loop-count-preserved : goal.loop-count-preserved
loop-count-preserved c =
    let low : c.loop-count.count < length (reverse c.args.bits.now) = omega (arith, length-reverse c.args.bits.now, c.loop-count-test.true) in
    one_free (reverse c.args.bits.now) c.loop-count.count false low (get_or-reverse c.args.bits.now c.loop-count.count false c.loop-count-test.true ∙ c.if-bits-end.false) c.loop-count.invariant
