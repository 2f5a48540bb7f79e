use Rattle.std.proofs.Common.{length, map, slice_get, refl, sym, ap, ◌∙◌, arith}
use Rattle.map_blocks.proofs.RowsByBlock.{own_row, same_rows, row_here, row_later, row_none}
use Rattle.map_blocks.proofs.TableRows.{block_table_is}
use Rattle.map_blocks.proofs.block_side.BlockSide.block_at.Goals as goal

pub loop-block-init : goal.loop-block-init
loop-block-init c =
    let low = rw (← c.self.view_is) at c.requires in
    let all = c.into_iter-block-iterator.ensures.into_iter_gives ∙ c.values-block-items.ensures.rest in
    let table = ap length (block_table_is _ _ _ c.self.inside.blocks.entries (omega (arith, c.self.invariant.least)) c.self.invariant.apart ∙ sym (same_rows _ _ _ 0 c.self.inside.blocks.entries c.self.invariant.apart) ∙ ap (map own_row) (sym all)) in
    record { same = refl; some = omega arith }

pub returns-then-left-eq0 : goal.returns-then-left-eq0
returns-then-left-eq0 c =
    let all = c.into_iter-block-iterator.ensures.into_iter_gives ∙ c.values-block-items.ensures.rest in
    rw (← c.self.view_is) (ap (λ xs. slice_get xs c.args.index) (block_table_is _ _ _ c.self.inside.blocks.entries (omega (arith, c.self.invariant.least)) c.self.invariant.apart ∙ sym (same_rows _ _ _ 0 c.self.inside.blocks.entries c.self.invariant.apart) ∙ ap (map own_row) (sym all))
    ∙ row_here c.loop-block.block-iterator c.next.new.self c.loop-block.left c.args.index _ c.in-Some.block.now c.loop-block.invariant c.in-Some.ensures.steps c.row.result c.if-left-eq0.true c.row.ensures)

pub loop-block-preserved : goal.loop-block-preserved
loop-block-preserved c = row_later c.loop-block.block-iterator c.next.new.self c.loop-block.left c.args.index _ c.in-Some.block.now c.loop-block.invariant c.in-Some.ensures.steps c.if-left-eq0.false

pub unreachable-requires : goal.unreachable-requires
unreachable-requires c = row_none c.loop-block.block-iterator c.loop-block.left c.args.index _ c.loop-block.invariant c.in-None.ensures.steps.0
