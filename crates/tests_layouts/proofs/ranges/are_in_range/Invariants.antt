use Rattle.std.proofs.Common.{◌≡◌, ◌≤◌, ◌<◌, ℕ, take}
use Rattle.std.specs.List.{slice_index_or}
use Rattle.unit_layout.specs.declared.request.GroupSpec.{GroupSpec}
use Rattle.unit_layout.specs.LayoutRule.{processors}
use Rattle.unit_layout.specs.NumberRanges.{IsGroupInRange, IsAligned}
use Rattle.tests_layouts.proofs.ranges.are_in_range.Given as goal

-- the groups so far
abbrev pub invariant-loop-group : goal.invariant-loop-group
invariant-loop-group l = record {
  cpus : l.cpus ≡ processors (take l.group-index l.groups);
  few : l.cpus ≤ 64;
  groups : (k : ℕ) (d : GroupSpec) → k < l.group-index → IsGroupInRange (slice_index_or l.groups k d);
  aligned : (k : ℕ) (d : GroupSpec) → k < l.group-index → IsAligned l.atom (slice_index_or l.groups k d);
}
