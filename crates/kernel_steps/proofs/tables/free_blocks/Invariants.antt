use Rattle.std.proofs.Common.{◌≡◌, take}
use Rattle.kernel_steps.proofs.tables.free_blocks.Given as goal

abbrev pub invariant-loop-index : goal.invariant-loop-index
invariant-loop-index l = l.spans.items ≡ take l.index l.free.blocks
