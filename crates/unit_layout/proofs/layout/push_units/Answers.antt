use Rattle.std.proofs.Common.{ℕ, ◌+◌, ◌-◌, ◌*◌, ◌++◌, List, map, ap, ◌∙◌}
use Rattle.vm_model.specs.Space.{count_from}
use Rattle.unit_layout.specs.LayoutRule as rule
use Rattle.unit_layout.proofs.GroupPlaces.{unit_pushed}
use Rattle.unit_layout.proofs.layout.push_units.Goals as goal

pub loop-index-preserved : goal.loop-index-preserved
loop-index-preserved c =
    let f = λ (i : ℕ). c.args.group.offset + i * c.args.division.unit_pages in
    ap (λ (units : List ℕ). units ++ map f (count_from (c.args.group.cpus - (c.loop-index.index + 1)) (c.loop-index.index + 1))) c.in_ok-push.ensures.items
    ∙ unit_pushed c.loop-index.units.items (c.args.units.now.items ++ rule.units_of c.args.division c.args.group) f c.args.group.cpus c.loop-index.index c.loop-index-test.true c.loop-index.invariant
