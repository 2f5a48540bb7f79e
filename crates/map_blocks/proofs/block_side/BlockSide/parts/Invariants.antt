use Rattle.std.proofs.Common.{◌≡◌, ◌+◌, length, flat_map}
use Rattle.map_blocks.proofs.RowsByBlock.{own_parts}
use Rattle.map_blocks.proofs.block_side.BlockSide.parts.Given as goal

abbrev pub invariant-loop-block : goal.invariant-loop-block
invariant-loop-block l = l.parts + length (flat_map own_parts l.block-iterator) ≡ length (flat_map own_parts l.initial.block-iterator)
