use Rattle.std.proofs.Common.{arith}
use Rattle.unit_layout.proofs.GroupPlaces.{end_in_width}
use Rattle.unit_layout.proofs.layout.units_of.Goals as goal

pub push_units-requires-clause-offset : goal.push_units-requires-clause-offset
push_units-requires-clause-offset c = omega (arith, end_in_width c.args.division c.args.groups.now c.loop-group.group-index (record { cpus = 0; offset = 0 }) c.loop-group-test.true)
