use Rattle.std.proofs.Common.{◌≡◌, ◌+◌, ◌-◌, ◌*◌, ◌++◌, map}
use Rattle.vm_model.specs.Space.{count_from}
use Rattle.unit_layout.specs.LayoutRule as rule
use Rattle.unit_layout.proofs.layout.push_units.Given as goal

-- the units that are there, and those that are left
abbrev pub invariant-loop-index : goal.invariant-loop-index
invariant-loop-index l = l.units.items ++ map (λ i. l.fn.group.offset + i * l.division.unit_pages) (count_from (l.fn.group.cpus - l.index) l.index) ≡ l.fn.units.items ++ rule.units_of l.division l.fn.group
