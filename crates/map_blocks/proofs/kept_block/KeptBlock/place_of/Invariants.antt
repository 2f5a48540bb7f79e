use Rattle.std.proofs.Common.{◌-◌}
use Rattle.map_blocks.proofs.Between.{IsBetween}
use Rattle.map_blocks.proofs.kept_block.KeptBlock.place_of.Given as goal

abbrev pub invariant-loop-high : goal.invariant-loop-high
invariant-loop-high l = IsBetween l.offset l.self.block.parts l.low l.high

abbrev pub decreases-loop-high : goal.decreases-loop-high
decreases-loop-high l = l.high - l.low
