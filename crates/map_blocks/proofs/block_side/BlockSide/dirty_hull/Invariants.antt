use Rattle.map_blocks.proofs.DirtyHulls.{hull_onto, IsHulled}
use Rattle.map_blocks.proofs.block_side.BlockSide.dirty_hull.Given as goal

abbrev pub invariant-loop-block : goal.invariant-loop-block
invariant-loop-block l = IsHulled l.hull l.block-iterator (hull_onto l.initial.hull l.initial.block-iterator)
