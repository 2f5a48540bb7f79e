use Rattle.std.proofs.Common.{arith}
use Rattle.map_blocks.proofs.EndedHull.{range_before}
use Rattle.map_blocks.proofs.kept_block.KeptBlock.row.Goals as goal

pub overflow_add-low : goal.overflow_add-low
overflow_add-low c =
    let within = range_before _ _ _ _ _ _ c.self.invariant c.in-Some.range c.in-Some.is in
    let most = c.self.invariant.most in
    omega arith
