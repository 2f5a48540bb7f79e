use Rattle.std.proofs.Common.{◌≡◌, filter, take}
use Rattle.map_blocks.specs.KeptBlockSides.{is_broken}
use Rattle.map_blocks.proofs.queues.fragmented_starts.Given as goal

abbrev pub invariant-loop-start : goal.invariant-loop-start
invariant-loop-start l = l.starts.items ≡ filter (is_broken l.blocks.entries) (take l.start-index l.queue)
