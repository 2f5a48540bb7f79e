use Rattle.std.proofs.Common.{pos, length, ap, ◌∙◌, arith}
use Rattle.vm_model.specs.Space.{span}
use Rattle.vm_model.proofs.Paint.{length-paint_from}
use Rattle.page_pool.proofs.Painting.{paint-first, paint-next, paint-last}
use Rattle.page_pool.proofs.cells.clear_words.Goals as goal

pub loop-place-init : goal.loop-place-init
loop-place-init c = paint-first c.args.first (pos 0) c.args.words.now

pub slice_set_of-words : goal.slice_set_of-words
slice_set_of-words c =
    let long = ap length c.loop-place.invariant ∙ length-paint_from _ (pos 0) c.args.words.now 0 in
    omega arith

pub loop-place-preserved : goal.loop-place-preserved
loop-place-preserved c = paint-next c.args.first c.loop-place.place (pos 0) c.args.words.now c.loop-place.words c.loop-place.auto.place c.loop-place.invariant

pub returns : goal.returns
returns c = paint-last (span c.args.first c.args.count) c.loop-place.place (pos 0) c.args.words.now c.loop-place.words (omega arith) c.loop-place.invariant
