use Rattle.std.proofs.Common.{◌≡◌, max, drop}
use Rattle.vm_model.specs.Space.{longest_of}
use Rattle.kernel_steps.proofs.tables.plain_largest.Given as goal

-- so many pages, or those of the largest that is left
abbrev pub invariant-loop-block : goal.invariant-loop-block
invariant-loop-block l = max l.largest (longest_of (drop l.block-index l.blocks)).pages ≡ (longest_of l.blocks).pages
