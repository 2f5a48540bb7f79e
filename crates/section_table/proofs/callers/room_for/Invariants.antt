use Rattle.std.proofs.Common.{◌≡◌, ◌<◌, ◌≤◌, None, replicate, vec_capacity}
use Rattle.section_table.proofs.callers.room_for.Given as goal

abbrev pub invariant-loop : goal.invariant-loop
invariant-loop g l = (l.callers.items ≡ replicate l.counter None) × (l.caller < vec_capacity l.callers)
