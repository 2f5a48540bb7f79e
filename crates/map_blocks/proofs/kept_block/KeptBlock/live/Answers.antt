use Rattle.std.proofs.Common.{◌≡◌, ◌+◌, take, length, sym, ap, ◌∙◌, arith}
use Rattle.std.proofs.lemmas.List.{length-append, take_all}
use Rattle.vm_model.specs.PlainMap.{is_live}
use Rattle.map_blocks.specs.KeptBlocks.{KeptRow}
use Rattle.map_blocks.proofs.PartsInRow.{length_le_size}
use Rattle.map_blocks.proofs.LivePartRows.{rows_of, same_bits, taken_yes, taken_no, taken_few}
use Rattle.map_blocks.proofs.kept_block.KeptBlock.live.Goals.{then-is_live, else-is_live}
use Rattle.map_blocks.proofs.kept_block.KeptBlock.live.Goals as goal

pub overflow_add-live : goal.overflow_add-live
overflow_add-live c =
    let few = taken_few c.args.self.now.block _ _ _ c.loop-part-test.true c.part-item.is in
    let count = c.loop-part.invariant in
    let most = length_le_size 0 c.self.inside.parts.items c.self.invariant.packed in
    let given = c.self.invariant.given in
    let pages = c.self.invariant.most in
    let inside = c.loop-part-test.true in
    let items = ap length c.deref-part-items.ensures.value in
    omega arith

pub loop-part-preserved : goal.loop-part-preserved
loop-part-preserved c =
    let same : is_live c.part-item.result.life ≡ c.is_live.result = same_bits _ _ c.is_live.ensures in
    elim c.if-is_live.branch [
      | then-is_live w ↦ w.live-is ∙ ap (λ n. n + 1) c.loop-part.invariant
          ∙ sym (ap length (taken_yes c.args.self.now.block _ _ _ c.loop-part-test.true c.part-item.is (same ∙ w.if-is_live.true)) ∙ length-append (rows_of c.args.self.now.block (take c.loop-part.part-index c.deref-part-items.result.now)) _)
      | else-is_live w ↦ w.live-is ∙ c.loop-part.invariant ∙ sym (ap length (taken_no c.args.self.now.block _ _ _ c.loop-part-test.true c.part-item.is (same ∙ w.if-is_live.false)))
    ]

pub returns : goal.returns
returns c =
    c.loop-part.invariant ∙ ap (λ ps. length (rows_of c.args.self.now.block ps)) (take_all _ _ c.loop-part-test.false ∙ c.deref-part-items.ensures.value ∙ ap (λ (r : KeptRow). r.block.parts) c.self.view_is)
