use Rattle.std.proofs.Common.{◌≡◌, drop}
use Rattle.map_blocks.specs.KeptBlockSides.{without_all}
use Rattle.map_blocks.proofs.queues.remove_all.Given as goal

abbrev pub invariant-loop-start : goal.invariant-loop-start
invariant-loop-start l = without_all (drop l.start-index l.starts) l.blocks.entries ≡ without_all l.starts l.initial.blocks.entries
