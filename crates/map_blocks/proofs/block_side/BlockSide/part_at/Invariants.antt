use Rattle.std.proofs.Common.{flat_map}
use Rattle.map_blocks.proofs.RowsByBlock.{own_parts, IsLeftIn}
use Rattle.map_blocks.proofs.block_side.BlockSide.part_at.Given as goal

abbrev pub invariant-loop-block : goal.invariant-loop-block
invariant-loop-block l = IsLeftIn l.block-iterator l.left (flat_map own_parts l.initial.block-iterator) l.index
