use Rattle.map_blocks.proofs.Disjoint.{all_apart, all_inside, blocks_apart}
use Rattle.map_blocks.proofs.block_side.BlockSide.keeps_apart.Goals as goal

pub returns-clause-apart : goal.returns-clause-apart
returns-clause-apart c = rw (← c.self.view_is) (all_apart _ _ _ c.self.inside.blocks.entries c.self.invariant.apart)

pub returns-clause-inside : goal.returns-clause-inside
returns-clause-inside c = rw (← c.self.view_is) (all_inside _ _ _ c.self.inside.blocks.entries c.self.invariant.apart)

pub returns-clause-blocks : goal.returns-clause-blocks
returns-clause-blocks c = rw (← c.self.view_is) (blocks_apart _ _ _ c.self.inside.blocks.entries c.self.invariant.apart)
