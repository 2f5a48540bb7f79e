use Rattle.std.proofs.Common.{◌≡◌, drop, max}
use Rattle.unit_layout.specs.Refusals as rule
use Rattle.unit_layout.proofs.refusals.width.Given as goal

-- the greatest end so far, and those that are left
abbrev pub invariant-loop-group : goal.invariant-loop-group
invariant-loop-group l = max l.width (rule.width l.division (drop l.group-index l.groups)) ≡ rule.width l.division l.groups
