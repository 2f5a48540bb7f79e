use Rattle.std.proofs.Common.{◌≡◌, ◌≤◌}
use Rattle.unit_layout.specs.LayoutRule as rule
use Rattle.unit_layout.specs.NumberRanges.{IsCount}
use Rattle.unit_layout.proofs.UnitSearch.{kept_below}
use Rattle.unit_layout.proofs.division.units_in.Given as goal

-- what is left decides
abbrev pub invariant-loop-fewer : goal.invariant-loop-fewer
invariant-loop-fewer l = record {
  units : rule.taken_after l.groups l.taken (kept_below l.groups l.pages l.fewer) ≡ rule.units_in l.groups l.pages l.unit;
  most : l.most ≡ rule.allocations l.groups l.taken;
  taken : IsCount l.taken;
  fewer : l.fewer ≤ 8;
}
