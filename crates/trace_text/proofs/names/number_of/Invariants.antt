use Rattle.std.proofs.Common.{◌≡◌, ◌≤◌, length, drop}
use Rattle.trace_text.specs.Names.{number_of}
use Rattle.trace_text.proofs.names.number_of.Given as goal

-- the number of the bytes that were read, which are the last ones
abbrev pub invariant-loop-left : goal.invariant-loop-left
invariant-loop-left l = (l.left ≤ length l.name) × (l.number ≡ number_of (drop l.left l.name))

abbrev pub decreases-loop-left : goal.decreases-loop-left
decreases-loop-left l = l.left
