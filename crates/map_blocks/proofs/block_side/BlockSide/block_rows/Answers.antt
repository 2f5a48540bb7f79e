use Rattle.std.proofs.Common.{◌++◌, ◌∷◌, [], map, sym, ap, ◌∙◌, arith}
use Rattle.std.proofs.lemmas.List.{append-nil}
use Rattle.map_blocks.proofs.RowsByBlock.{own_row, same_rows, rows_more}
use Rattle.map_blocks.proofs.TableRows.{block_table_is}
use Rattle.map_blocks.proofs.block_side.BlockSide.block_rows.Goals as goal

pub loop-block-init : goal.loop-block-init
loop-block-init c = ap (λ xs. xs ++ map own_row c.into_iter-block-iterator.result) c.in_ok-list.ensures.items

pub loop-block-preserved : goal.loop-block-preserved
loop-block-preserved c = ap (λ xs. xs ++ map own_row c.next.new.self) (c.in_ok-push.ensures.items ∙ ap (λ r. c.loop-block.list.items ++ r ∷ []) c.row.ensures) ∙ rows_more c.in-Some.block.now c.next.new.self c.loop-block.block-iterator c.in-Some.ensures.steps _ _ c.loop-block.invariant

pub returns : goal.returns
returns c =
    let all = c.into_iter-block-iterator.ensures.into_iter_gives ∙ c.values-block-items.ensures.rest in
    rw (← c.self.view_is) (c.of.ensures ∙ sym (append-nil c.loop-block.list.items) ∙ ap (λ xs. c.loop-block.list.items ++ map own_row xs) (sym c.in-None.ensures.steps.0) ∙ c.loop-block.invariant ∙ ap (map own_row) all
    ∙ same_rows _ _ _ 0 c.self.inside.blocks.entries c.self.invariant.apart ∙ sym (block_table_is _ _ _ c.self.inside.blocks.entries (omega (arith, c.self.invariant.least)) c.self.invariant.apart))
