use Rattle.std.proofs.Common.{◌≡◌, length, take}
use Rattle.map_blocks.proofs.LivePartRows.{rows_of}
use Rattle.map_blocks.proofs.kept_block.KeptBlock.live.Given as goal

abbrev pub invariant-loop-part : goal.invariant-loop-part
invariant-loop-part l = l.live ≡ length (rows_of l.self.block (take l.part-index l.part-items))
