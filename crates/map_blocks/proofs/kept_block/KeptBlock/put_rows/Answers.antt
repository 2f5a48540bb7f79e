use Rattle.std.proofs.Common.{◌≡◌, ◌++◌, ◌∷◌, [], take, sym, ap, ◌∙◌}
use Rattle.std.proofs.lemmas.List.{append-nil, append_assoc, take_all}
use Rattle.vm_model.specs.PlainMap.{is_live}
use Rattle.map_blocks.specs.KeptBlocks.{KeptRow}
use Rattle.map_blocks.proofs.LivePartRows.{rows_of, same_bits, taken_yes, taken_no, offset_few}
use Rattle.map_blocks.proofs.kept_block.KeptBlock.put_rows.Goals.{then-is_live+in_ok-push, else-is_live}
use Rattle.map_blocks.proofs.kept_block.KeptBlock.put_rows.Goals as goal

pub loop-part-init : goal.loop-part-init
loop-part-init c = sym (append-nil c.args.rows.now.items)

pub part_row-requires : goal.part_row-requires
part_row-requires c =
    rw (← c.self.view_is) (offset_few _ _ _ _ _ _ c.self.invariant _ _ _ c.deref-part-items.ensures.value c.loop-part-test.true c.part-item.is)

pub loop-part-preserved : goal.loop-part-preserved
loop-part-preserved c =
    let same : is_live c.part-item.result.life ≡ c.is_live.result = same_bits _ _ c.is_live.ensures in
    elim c.if-is_live.branch [
      | then-is_live+in_ok-push w ↦ ap (λ v. v.items) w.rows-is ∙ w.in_ok-push.ensures.items ∙ ap (λ rs. rs ++ w.part_row.result ∷ []) c.loop-part.invariant ∙ append_assoc c.args.rows.now.items (rows_of c.args.self.now.block (take c.loop-part.part-index c.deref-part-items.result.now)) (w.part_row.result ∷ [])
          ∙ ap (λ r. c.args.rows.now.items ++ (rows_of c.args.self.now.block (take c.loop-part.part-index c.deref-part-items.result.now) ++ r ∷ [])) w.part_row.ensures
          ∙ ap (λ rs. c.args.rows.now.items ++ rs) (sym (taken_yes c.args.self.now.block _ _ _ c.loop-part-test.true c.part-item.is (same ∙ w.if-is_live.true)))
      | else-is_live w ↦ ap (λ v. v.items) w.rows-is ∙ c.loop-part.invariant ∙ ap (λ rs. c.args.rows.now.items ++ rs) (sym (taken_no c.args.self.now.block _ _ _ c.loop-part-test.true c.part-item.is (same ∙ w.if-is_live.false)))
    ]

pub returns : goal.returns
returns c =
    c.loop-part.invariant ∙ ap (λ ps. c.args.rows.now.items ++ rows_of c.args.self.now.block ps) (take_all _ _ c.loop-part-test.false ∙ c.deref-part-items.ensures.value ∙ ap (λ (r : KeptRow). r.block.parts) c.self.view_is)
