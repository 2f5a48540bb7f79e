use Rattle.busy_areas.proofs.JoinedAreas.{IsPutUpTo}
use Rattle.busy_areas.proofs.busy_side.put_all.Given as goal

abbrev pub invariant-loop-index : goal.invariant-loop-index
invariant-loop-index l = IsPutUpTo l.caller l.first l.new l.initial.areas.entries l.areas.entries l.index
