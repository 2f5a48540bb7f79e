use Rattle.std.proofs.Common.{◌≡◌, ◌++◌, drop, map}
use Rattle.unit_layout.specs.LayoutRule as rule
use Rattle.unit_layout.proofs.layout.groups_of.Given as goal

-- those that are laid, and those that are left
abbrev pub invariant-loop-group : goal.invariant-loop-group
invariant-loop-group l = l.laid.items ++ map (rule.group_of l.division) (drop l.group-index l.groups) ≡ map (rule.group_of l.division) l.groups
