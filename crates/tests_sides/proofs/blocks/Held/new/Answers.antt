use Rattle.std.proofs.Common.{refl}
use Rattle.tests_sides.proofs.blocks.Held.new.Goals as goal

pub new-requires-clause-power : goal.new-requires-clause-power
new-requires-clause-power c = (3, refl)
