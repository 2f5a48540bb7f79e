use Rattle.std.proofs.Common.{◌≡◌, ◌+◌, drop}
use Rattle.unit_layout.specs.LayoutRule as rule
use Rattle.unit_layout.proofs.division.allocations.Given as goal

-- what is counted and what is left
abbrev pub invariant-loop-group : goal.invariant-loop-group
invariant-loop-group l = l.sum + rule.allocations (drop l.group-index l.groups) l.units ≡ rule.allocations l.groups l.units
