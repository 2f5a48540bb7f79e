use Rattle.std.proofs.Common.{arith}
use Rattle.map_blocks.proofs.EndedHull.{range_before}
use Rattle.map_blocks.proofs.kept_block.KeptBlock.dirty_range.Goals as goal

pub overflow_add-result : goal.overflow_add-result
overflow_add-result c =
    let within = range_before _ _ _ _ _ _ c.self.invariant c.in_ok-range.range c.in_ok-range.was in
    let end = c.self.invariant.end in
    let most = c.self.invariant.most in
    omega arith

pub returns-clause-end : goal.returns-clause-end
returns-clause-end c =
    let within = range_before _ _ _ _ _ _ c.self.invariant c.in_ok-range.range c.in_ok-range.was in
    let end = c.self.invariant.end in
    omega arith
