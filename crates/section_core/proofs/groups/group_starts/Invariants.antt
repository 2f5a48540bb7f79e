use Rattle.std.proofs.Common.{◌≡◌, ◌+◌, take, map}
use Rattle.unit_layout.specs.declared.layout.Group.{Group}
use Rattle.section_core.proofs.groups.group_starts.Given as goal

abbrev pub invariant-loop-group : goal.invariant-loop-group
invariant-loop-group l = record { starts : l.starts.items ≡ map (λ (g : Group). l.base + g.offset) (take l.group-index l.groups); room : l.starts.capacity ≡ 8 }
