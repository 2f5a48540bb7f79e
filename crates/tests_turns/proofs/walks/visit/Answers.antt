use Rattle.tests_turns.specs.Walking.{walking}
use Rattle.tests_turns.proofs.PassKeepsCallers.{acts_keep}
use Rattle.tests_turns.proofs.walks.visit.Goals as goal

pub returns-clause-callers : goal.returns-clause-callers
returns-clause-callers g c = acts_keep walking c.args.caller _ _ c.act.result c.act.ensures.acts
