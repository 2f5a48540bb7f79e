use Rattle.std.proofs.Common.{◌≡◌, drop}
use Rattle.unit_layout.specs.LayoutRule.{span_of}
use Rattle.unit_layout.specs.Refusals as rule
use Rattle.unit_layout.proofs.refusals.overlapped.Given as goal

-- what is left decides
abbrev pub invariant-loop-second : goal.invariant-loop-second
invariant-loop-second l = rule.first_place (λ other. rule.share_a_page (span_of l.division l.one) (span_of l.division other)) l.second (drop l.second l.groups) ≡ rule.first_place (λ other. rule.share_a_page (span_of l.division l.one) (span_of l.division other)) l.from (drop l.from l.groups)
