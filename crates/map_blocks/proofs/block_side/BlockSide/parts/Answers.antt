use Rattle.std.proofs.Common.{◌≡◌, ◌+◌, length, flat_map, sym, ap, ◌∙◌, arith}
use Rattle.map_blocks.proofs.RowsByBlock.{own_parts, few_rows, count_more}
use Rattle.map_blocks.proofs.TableRows.{part_table_is}
use Rattle.map_blocks.proofs.block_side.BlockSide.parts.Goals as goal

pub loop-block-init : goal.loop-block-init
loop-block-init c = omega arith

pub overflow_add-parts : goal.overflow_add-parts
overflow_add-parts c =
    let all = ap (λ xs. length (flat_map own_parts xs)) (c.into_iter-block-iterator.ensures.into_iter_gives ∙ c.values-block-items.ensures.rest) in
    let few = few_rows _ _ _ 0 c.self.inside.blocks.entries (omega arith) c.self.invariant.apart in
    let more = count_more c.in-Some.block.now c.next.new.self c.loop-block.block-iterator c.in-Some.ensures.steps _ _ c.live-parts.result c.live-parts.ensures c.loop-block.invariant in
    omega arith

pub loop-block-preserved : goal.loop-block-preserved
loop-block-preserved c = count_more c.in-Some.block.now c.next.new.self c.loop-block.block-iterator c.in-Some.ensures.steps _ _ c.live-parts.result c.live-parts.ensures c.loop-block.invariant

pub returns : goal.returns
returns c =
    let all = c.into_iter-block-iterator.ensures.into_iter_gives ∙ c.values-block-items.ensures.rest in
    let done : c.loop-block.parts ≡ c.loop-block.parts + length (flat_map own_parts c.loop-block.block-iterator) = (let none = ap (λ xs. length (flat_map own_parts xs)) c.in-None.ensures.steps.0 in omega arith) in
    rw (← c.self.view_is) (done ∙ c.loop-block.invariant ∙ ap (λ xs. length (flat_map own_parts xs)) all ∙ sym (ap length (part_table_is _ _ _ c.self.inside.blocks.entries c.self.invariant.apart)))
