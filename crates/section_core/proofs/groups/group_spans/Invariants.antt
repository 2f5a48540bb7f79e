use Rattle.std.proofs.Common.{◌≡◌, take}
use Rattle.congruent_areas.specs.GroupsAtBase.{spans_at}
use Rattle.section_core.proofs.groups.group_spans.Given as goal

abbrev pub invariant-loop-group : goal.invariant-loop-group
invariant-loop-group l = record { spans : l.spans.items ≡ spans_at l.base (take l.group-index l.groups); room : l.spans.capacity ≡ 8 }
