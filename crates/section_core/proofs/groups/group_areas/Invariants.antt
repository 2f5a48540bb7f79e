use Rattle.std.proofs.Common.{◌≡◌, take}
use Rattle.vm_model.specs.Areas.{group_kinds}
use Rattle.congruent_areas.specs.GroupsAtBase.{spans_at}
use Rattle.section_core.proofs.groups.group_areas.Given as goal

abbrev pub invariant-loop-number : goal.invariant-loop-number
invariant-loop-number l = l.areas.items ≡ group_kinds l.chunk 0 (spans_at l.base (take l.number l.groups))
