use Rattle.std.proofs.Common.{◌≡◌, refl, ap, arith}
use Rattle.unit_layout.specs.LayoutRule.{Numbers}
use Rattle.unit_layout.proofs.Ceilings.{power_pos}
use Rattle.tests_layouts.proofs.show.Goals as goal

pub show_bases-requires-clause-atom : goal.show_bases-requires-clause-atom
show_bases-requires-clause-atom c =
    let same : c.in-Ok.layout.atom ≡ c.in_ok-request.request.spec.atom = ap (λ (n : Numbers). n.atom) c.in-Ok.ensures.layout in
    let low = power_pos c.in_ok-request.request.spec.atom (c.if-not-is_in_range.ensures refl).atom in
    omega arith
