use Rattle.map_blocks.proofs.LivePartRows.{IsLeft}
use Rattle.map_blocks.proofs.kept_block.KeptBlock.live_at.Given as goal

abbrev pub invariant-loop-part : goal.invariant-loop-part
invariant-loop-part l = IsLeft l.self.block l.part-items l.part-index l.left l.index
