use Rattle.std.proofs.Common.{arith}
use Rattle.std.proofs.lemmas.List.Sums.{sum_by-drop_more}
use Rattle.std.specs.Int.{div_ceil}
use Rattle.unit_layout.specs.declared.request.GroupSpec.{GroupSpec}
use Rattle.unit_layout.proofs.Ceilings.{allocations_few}
use Rattle.unit_layout.proofs.division.allocations.Goals as goal

pub overflow_add-sum : goal.overflow_add-sum
overflow_add-sum c =
    let here = sum_by-drop_more (λ (g : GroupSpec). div_ceil g.cpus c.args.units) c.args.groups.now c.loop-group.group-index (record { cpus = 0; offset = 0 }) c.loop-group-test.true in
    omega (arith, here, allocations_few c.args.groups.now c.args.units)

pub returns-clause-few : goal.returns-clause-few
returns-clause-few c = omega (arith, allocations_few c.args.groups.now c.args.units)
