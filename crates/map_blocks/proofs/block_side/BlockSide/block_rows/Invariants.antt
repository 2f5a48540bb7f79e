use Rattle.std.proofs.Common.{◌≡◌, ◌++◌, map}
use Rattle.map_blocks.proofs.RowsByBlock.{own_row}
use Rattle.map_blocks.proofs.block_side.BlockSide.block_rows.Given as goal

abbrev pub invariant-loop-block : goal.invariant-loop-block
invariant-loop-block l = l.list.items ++ map own_row l.block-iterator ≡ map own_row l.initial.block-iterator
