use Rattle.std.proofs.Common.{◌++◌, flat_map, sym, ap, ◌∙◌}
use Rattle.std.proofs.lemmas.List.{append-nil}
use Rattle.map_blocks.proofs.RowsByBlock.{own_parts, parts_more}
use Rattle.map_blocks.proofs.TableRows.{part_table_is}
use Rattle.map_blocks.proofs.block_side.BlockSide.part_rows.Goals as goal

pub loop-block-init : goal.loop-block-init
loop-block-init c = ap (λ xs. xs ++ flat_map own_parts c.into_iter-block-iterator.result) c.new-list.ensures.items

pub loop-block-preserved : goal.loop-block-preserved
loop-block-preserved c = ap (λ xs. xs ++ flat_map own_parts c.next.new.self) c.in_ok-put_rows.ensures ∙ parts_more c.in-Some.block.now c.next.new.self c.loop-block.block-iterator c.in-Some.ensures.steps _ _ c.loop-block.invariant

pub returns : goal.returns
returns c =
    let all = c.into_iter-block-iterator.ensures.into_iter_gives ∙ c.values-block-items.ensures.rest in
    rw (← c.self.view_is) (c.of.ensures ∙ sym (append-nil c.loop-block.list.items) ∙ ap (λ xs. c.loop-block.list.items ++ flat_map own_parts xs) (sym c.in-None.ensures.steps.0) ∙ c.loop-block.invariant ∙ ap (flat_map own_parts) all
    ∙ sym (part_table_is _ _ _ c.self.inside.blocks.entries c.self.invariant.apart))
