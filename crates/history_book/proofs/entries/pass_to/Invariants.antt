use Rattle.std.proofs.Common.{◌-◌}
use Rattle.history_book.proofs.PlacesSoFar.{HavePlaces}
use Rattle.history_book.proofs.entries.pass_to.Given as goal

abbrev pub invariant-loop-passed : goal.invariant-loop-passed
invariant-loop-passed l = HavePlaces l.caller l.place l.moved l.passed.callers l.passed.own

abbrev pub decreases-loop-passed : goal.decreases-loop-passed
decreases-loop-passed l = l.place - l.passed.own
