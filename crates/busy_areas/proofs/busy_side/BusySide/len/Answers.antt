use Rattle.std.proofs.Common.{arith}
use Rattle.busy_areas.proofs.busy_side.BusySide.len.Goals as goal

pub overflow_cast-result : goal.overflow_cast-result
overflow_cast-result c = omega arith
