use Rattle.std.proofs.Common.{◌≡◌, drop}
use Rattle.unit_layout.specs.Refusals as rule
use Rattle.unit_layout.proofs.refusals.overlap.Given as goal

-- what is left decides
abbrev pub invariant-loop-first : goal.invariant-loop-first
invariant-loop-first l = rule.overlap l.division l.first (drop l.first l.groups) ≡ rule.overlap l.division 0 l.groups
