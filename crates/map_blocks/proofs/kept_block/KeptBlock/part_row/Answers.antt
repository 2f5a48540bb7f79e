use Rattle.std.proofs.Common.{arith}
use Rattle.map_blocks.proofs.kept_block.KeptBlock.part_row.Goals as goal

pub overflow_add-result : goal.overflow_add-result
overflow_add-result c =
    let low = rw (← c.self.view_is) at c.requires in
    let end = c.self.invariant.end in
    omega (arith, c.offset.ensures)
