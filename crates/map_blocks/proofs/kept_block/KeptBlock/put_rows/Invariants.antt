use Rattle.std.proofs.Common.{◌≡◌, ◌++◌, take}
use Rattle.map_blocks.proofs.LivePartRows.{rows_of}
use Rattle.map_blocks.proofs.kept_block.KeptBlock.put_rows.Given as goal

abbrev pub invariant-loop-part : goal.invariant-loop-part
invariant-loop-part l = l.rows.items ≡ l.initial.rows.items ++ rows_of l.self.block (take l.part-index l.part-items)
