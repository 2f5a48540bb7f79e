use Rattle.std.proofs.Common.{◌≡◌, ◌≤◌, List, length, sym, ◌∙◌, ap, subst, arith}
use Rattle.unit_layout.specs.declared.request.GroupSpec.{GroupSpec}
use Rattle.unit_layout.specs.LayoutRule as rule
use Rattle.unit_layout.proofs.GroupPlaces.{units_in_all}
use Rattle.unit_layout.proofs.layout.Layout.build.Goals as goal

pub invariant_of-result : goal.invariant_of-result
invariant_of-result c =
    let few : rule.processors c.as_slice-groups.result.now ≤ 64 = subst (λ (groups : List GroupSpec). rule.processors groups ≤ 64) (sym c.as_slice-groups.ensures) c.requires.processors in
    let all : length c.in_ok-units.units.items ≡ rule.processors c.as_slice-groups.result.now = ap length c.in_ok-units.ensures ∙ units_in_all c.division_of-division.result c.as_slice-groups.result.now in
    omega arith
