use Rattle.tests_turns.proofs.PassKeepsCallers.{ok_map, starting_has}
use Rattle.tests_turns.proofs.walks.open.Goals as goal

pub returns-clause-callers : goal.returns-clause-callers
returns-clause-callers c = ok_map c.start.result (λ s is. starting_has c.args.first c.args.second _ _ c.in_ok-walkers.ensures.items is) c.start.ensures.pass
