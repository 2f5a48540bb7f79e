use Rattle.std.proofs.Common.{length, flat_map, slice_get, refl, sym, ap, ◌∙◌, arith}
use Rattle.map_blocks.proofs.RowsByBlock.{own_parts, part_here, part_later, part_none}
use Rattle.map_blocks.proofs.TableRows.{part_table_is}
use Rattle.map_blocks.proofs.block_side.BlockSide.part_at.Goals as goal

pub loop-block-init : goal.loop-block-init
loop-block-init c =
    let low = rw (← c.self.view_is) at c.requires in
    let all = c.into_iter-block-iterator.ensures.into_iter_gives ∙ c.values-block-items.ensures.rest in
    let table = ap length (part_table_is _ _ _ c.self.inside.blocks.entries c.self.invariant.apart ∙ ap (flat_map own_parts) (sym all)) in
    record { same = refl; some = omega arith }

pub returns-then-left-live : goal.returns-then-left-live
returns-then-left-live c =
    let all = c.into_iter-block-iterator.ensures.into_iter_gives ∙ c.values-block-items.ensures.rest in
    rw (← c.self.view_is) (ap (λ xs. slice_get xs c.args.index) (part_table_is _ _ _ c.self.inside.blocks.entries c.self.invariant.apart ∙ ap (flat_map own_parts) (sym all))
    ∙ part_here c.loop-block.block-iterator c.next.new.self c.loop-block.left c.args.index c.live-live.result _ c.in-Some.block.now c.loop-block.invariant c.in-Some.ensures.steps c.live-live.ensures c.live_at.result c.if-left-live.true c.live_at.ensures)

pub loop-block-preserved : goal.loop-block-preserved
loop-block-preserved c = part_later c.loop-block.block-iterator c.next.new.self c.loop-block.left c.args.index c.live-live.result _ c.in-Some.block.now c.loop-block.invariant c.in-Some.ensures.steps c.live-live.ensures c.if-left-live.false

pub unreachable-requires : goal.unreachable-requires
unreachable-requires c = part_none c.loop-block.block-iterator c.loop-block.left c.args.index _ c.loop-block.invariant c.in-None.ensures.steps.0
