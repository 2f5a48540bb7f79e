use Rattle.std.proofs.Common.{subst}
use Rattle.callers.specs.CallerParts.{IsAt}
use Rattle.callers.proofs.AnswersGiven.{at_place}
use Rattle.callers.proofs.local.Local.place.Goals as goal

pub returns : goal.returns
returns c = subst (IsAt c.self.inside.place) c.self.view_is (at_place c.self.inside c.self.invariant)
