use Rattle.call_laws.proofs.Openings.{the_opening_first}
use Rattle.call_laws.proofs.CallWorlds.{histories_have_shapes}
use Rattle.call_laws.proofs.Targeting.{targets_are_got}
use Rattle.call_laws.proofs.histories.Goals as goal

pub returns : goal.returns
returns c = record { opening_first = the_opening_first; shapes = histories_have_shapes; targets = targets_are_got }
