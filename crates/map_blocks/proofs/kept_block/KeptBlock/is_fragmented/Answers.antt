use Rattle.std.proofs.Common.{arith}
use Rattle.map_blocks.proofs.EndedHull.{dirty_within}
use Rattle.map_blocks.proofs.kept_block.KeptBlock.is_fragmented.Goals as goal

pub overflow_add-self-inside : goal.overflow_add-self-inside
overflow_add-self-inside c =
    let within = dirty_within _ _ _ _ _ _ c.self.invariant in
    let most = c.self.invariant.most in
    omega arith
