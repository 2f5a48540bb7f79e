use Rattle.std.proofs.Common.{None, refl, sym, ap, ◌∙◌}
use Rattle.map_blocks.proofs.DirtyHulls.{hull_onto, hulled_some, hulled_none, dirty_hull_is}
use Rattle.map_blocks.proofs.Clean.{none_is_clean}
use Rattle.map_blocks.proofs.block_side.BlockSide.dirty_hull.Goals as goal

pub loop-block-init : goal.loop-block-init
loop-block-init c = record { same = refl; end = λ x e. cc }

pub wider-requires-clause-end : goal.wider-requires-clause-end
wider-requires-clause-end c = c.in-Some-dirty_range.ensures.end

pub wider-requires-clause-ends : goal.wider-requires-clause-ends
wider-requires-clause-ends c = c.loop-block.invariant.end

pub loop-block-preserved-in-Some-dirty_range : goal.loop-block-preserved-in-Some-dirty_range
loop-block-preserved-in-Some-dirty_range c = hulled_some _ _ c.dirty_range.result c.in-Some.block.now _ _ c.in-Some-dirty_range.range _ c.loop-block.invariant c.in-Some.ensures.steps c.dirty_range.ensures.range c.in-Some-dirty_range.is c.wider.ensures.wider c.wider.ensures.end

pub loop-block-preserved : goal.loop-block-preserved
loop-block-preserved c = hulled_none _ _ c.dirty_range.result c.in-Some.block.now _ _ c.loop-block.invariant c.in-Some.ensures.steps c.dirty_range.ensures.range c.in_default.is

pub returns-clause-hull : goal.returns-clause-hull
returns-clause-hull c =
    let all = c.into_iter-block-iterator.ensures.into_iter_gives ∙ c.values-block-items.ensures.rest in
    rw (← c.self.view_is) (ap (hull_onto c.loop-block.hull) (sym c.in-None.ensures.steps.0) ∙ c.loop-block.invariant.same ∙ ap (hull_onto None) all ∙ dirty_hull_is _ _ _ c.self.inside.blocks.entries c.self.invariant.apart)

pub returns-clause-none : goal.returns-clause-none
returns-clause-none c =
    let all = c.into_iter-block-iterator.ensures.into_iter_gives ∙ c.values-block-items.ensures.rest in
    rw (← c.self.view_is) (none_is_clean _ _ _ c.self.inside.blocks.entries c.loop-block.hull c.self.invariant.apart
    (ap (hull_onto c.loop-block.hull) (sym c.in-None.ensures.steps.0) ∙ c.loop-block.invariant.same ∙ ap (hull_onto None) all ∙ dirty_hull_is _ _ _ c.self.inside.blocks.entries c.self.invariant.apart))
