use Rattle.std.proofs.Common.{◌≡◌, find, drop}
use Rattle.map_blocks.specs.KeptBlockSides.{has_room}
use Rattle.map_blocks.proofs.queues.first_with_room.Given as goal

abbrev pub invariant-loop-start : goal.invariant-loop-start
invariant-loop-start l = find (has_room l.room l.blocks.entries) (drop l.start-index l.queue) ≡ find (has_room l.room l.blocks.entries) l.queue
