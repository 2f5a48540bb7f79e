use Rattle.std.proofs.Common.{◌≡◌, ◌++◌, drop}
use Rattle.std.specs.List.{flat_map}
use Rattle.unit_layout.specs.LayoutRule as rule
use Rattle.unit_layout.proofs.layout.units_of.Given as goal

-- the units that are there, and those that are left
abbrev pub invariant-loop-group : goal.invariant-loop-group
invariant-loop-group l = l.units.items ++ flat_map (rule.units_of l.division) (drop l.group-index l.groups) ≡ flat_map (rule.units_of l.division) l.groups
