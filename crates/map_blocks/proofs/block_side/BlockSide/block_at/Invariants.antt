use Rattle.std.proofs.Common.{map}
use Rattle.map_blocks.proofs.RowsByBlock.{own_row, IsRowLeft}
use Rattle.map_blocks.proofs.block_side.BlockSide.block_at.Given as goal

abbrev pub invariant-loop-block : goal.invariant-loop-block
invariant-loop-block l = IsRowLeft l.block-iterator l.left (map own_row l.initial.block-iterator) l.index
