use Rattle.std.proofs.Common.{◌≡◌, ◌==◌, true, false, find, Some, refl, sym, ap, ◌∙◌}
use Rattle.vm_model.specs.PlainMap.{Block, Part}
use Rattle.map_blocks.proofs.LivePartRows.{same_bits}
use Rattle.map_blocks.proofs.PartsInRow.{same_test, other_test}
use Rattle.map_blocks.proofs.FirstPassing.{find_yes, find_no}
use Rattle.map_blocks.proofs.BlockConditions.{in_hand_of, hand_known}
use Rattle.map_blocks.proofs.kept_block.KeptBlock.is_in_hand.Goals as goal

pub loop-part-init : goal.loop-part-init
loop-part-init c = refl

pub loop-part-preserved : goal.loop-part-preserved
loop-part-preserved c =
    let other : (c.part-item.result.offset == c.args.offset) ≡ false = other_test c.part-item.result.offset c.args.offset (λ same. c.if-offset.false (c.offset.ensures ∙ same)) in
    sym (find_no (λ (p : Part). p.offset == c.args.offset) c.deref-part-items.result.now c.loop-part.part-index c.part-item.result c.loop-part-test.true (ap (λ (p : Part). p.offset == c.args.offset) (sym c.part-item.is) ∙ other)) ∙ c.loop-part.invariant

pub returns-then-offset : goal.returns-then-offset
returns-then-offset c =
    let here : (c.part-item.result.offset == c.args.offset) ≡ true = ap (λ n. n == c.args.offset) (sym c.offset.ensures ∙ c.if-offset.true) ∙ same_test c.args.offset in
    let first : find (λ (p : Part). p.offset == c.args.offset) c.deref-part-items.result.now ≡ Some c.part-item.result =
    sym c.loop-part.invariant ∙ find_yes (λ (p : Part). p.offset == c.args.offset) c.deref-part-items.result.now c.loop-part.part-index c.part-item.result c.loop-part-test.true (ap (λ (p : Part). p.offset == c.args.offset) (sym c.part-item.is) ∙ here)
    ∙ ap (λ p. Some p) (sym c.part-item.is) in
    let at = ap (find (λ (p : Part). p.offset == c.args.offset)) (sym c.deref-part-items.ensures.value) ∙ first in
    let b : Block = record { start = c.self.inside.start; cpu = c.self.inside.cpu; parts = c.self.inside.parts.items } in
    rw (← c.self.view_is) (
      (λ yes. in_hand_of c.part-item.result c.args.offset b at (same_bits _ _ c.is_in_hand.ensures ∙ yes)),
      (λ hand. c.is_in_hand.ensures.1 (hand_known c.part-item.result c.args.offset b at hand)),
    )
