use Rattle.std.proofs.Common.{◌≡◌, ◌++◌, flat_map}
use Rattle.map_blocks.proofs.RowsByBlock.{own_parts}
use Rattle.map_blocks.proofs.block_side.BlockSide.part_rows.Given as goal

abbrev pub invariant-loop-block : goal.invariant-loop-block
invariant-loop-block l = l.list.items ++ flat_map own_parts l.block-iterator ≡ flat_map own_parts l.initial.block-iterator
