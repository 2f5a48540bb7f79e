use Rattle.std.proofs.Common.{◌≡◌, ◌<◌, ◌+◌, length, slice_get, Some, sym, ap, subst, ◌∙◌}
use Rattle.vm_model.specs.PlainMap.{is_live}
use Rattle.map_blocks.specs.KeptBlocks.{KeptRow}
use Rattle.map_blocks.proofs.LivePartRows.{rows_of, same_bits, offset_few, IsLeft, left_first, left_here, left_yes, left_no, left_none}
use Rattle.map_blocks.proofs.kept_block.KeptBlock.live_at.Goals.{then-is_live+else-left-eq0, else-is_live}
use Rattle.map_blocks.proofs.kept_block.KeptBlock.live_at.Goals as goal

pub loop-part-init : goal.loop-part-init
loop-part-init c =
    let items = c.deref-part-items.ensures.value ∙ ap (λ (r : KeptRow). r.block.parts) c.self.view_is in
    left_first _ _ _ (subst (λ ps. c.args.index < length (rows_of c.args.self.now.block ps)) (sym items) c.requires)

pub part_row-requires : goal.part_row-requires
part_row-requires c =
    rw (← c.self.view_is) (offset_few _ _ _ _ _ _ c.self.invariant _ _ _ c.deref-part-items.ensures.value c.loop-part-test.true c.part-item.is)

pub returns-then-left-eq0 : goal.returns-then-left-eq0
returns-then-left-eq0 c =
    let items = c.deref-part-items.ensures.value ∙ ap (λ (r : KeptRow). r.block.parts) c.self.view_is in
    let same : is_live c.part-item.result.life ≡ c.is_live.result = same_bits _ _ c.is_live.ensures in
    ap (λ ps. slice_get (rows_of c.args.self.now.block ps) c.args.index) (sym items)
    ∙ left_here _ _ _ _ _ _ c.loop-part-test.true c.part-item.is c.loop-part.invariant (same ∙ c.if-is_live.true) c.if-left-eq0.true
    ∙ ap (λ r. Some r) (sym c.part_row.ensures)

pub loop-part-preserved : goal.loop-part-preserved
loop-part-preserved c =
    let same : is_live c.part-item.result.life ≡ c.is_live.result = same_bits _ _ c.is_live.ensures in
    elim c.if-is_live.branch [
      | then-is_live+else-left-eq0 w ↦ subst (λ n. IsLeft c.args.self.now.block c.deref-part-items.result.now (c.loop-part.part-index + 1) n c.args.index) (sym w.left-is)
          (left_yes _ _ _ _ _ _ c.loop-part-test.true c.part-item.is c.loop-part.invariant (same ∙ w.if-is_live.true) w.if-left-eq0.false)
      | else-is_live w ↦ subst (λ n. IsLeft c.args.self.now.block c.deref-part-items.result.now (c.loop-part.part-index + 1) n c.args.index) (sym w.left-is)
          (left_no _ _ _ _ _ _ c.loop-part-test.true c.part-item.is c.loop-part.invariant (same ∙ w.if-is_live.false))
    ]

pub unreachable-requires : goal.unreachable-requires
unreachable-requires c = left_none _ _ _ _ _ c.loop-part-test.false c.loop-part.invariant
