use Rattle.std.proofs.Common.{arith}
use Rattle.unit_layout.proofs.GroupPlaces.{end_in_width}
use Rattle.unit_layout.proofs.layout.groups_of.Goals as goal

pub overflow_cast-group : goal.overflow_cast-group
overflow_cast-group c = omega (arith, end_in_width c.args.division c.args.groups.now c.loop-group.group-index (record { cpus = 0; offset = 0 }) c.loop-group-test.true)
