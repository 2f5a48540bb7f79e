use Rattle.std.proofs.Common.{◌≡◌, ◌≤◌, ◌+◌, drop}
use Rattle.unit_layout.specs.LayoutRule.{processors}
use Rattle.unit_layout.specs.Refusals as rule
use Rattle.unit_layout.proofs.refusals.without_processor.Given as goal

-- what is left decides, and each group that was passed has a processor
abbrev pub invariant-loop-index : goal.invariant-loop-index
invariant-loop-index l = record {
  place : rule.first_place rule.has_no_processor l.index (drop l.index l.groups) ≡ rule.first_place rule.has_no_processor 0 l.groups;
  few : l.index + processors (drop l.index l.groups) ≤ 64;
}
