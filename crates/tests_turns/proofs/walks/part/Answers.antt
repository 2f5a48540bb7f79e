use Rattle.std.proofs.Common.{arith}
use Rattle.tests_turns.proofs.PassKeepsCallers.{ok_map, alone_has}
use Rattle.tests_turns.proofs.walks.part.Goals as goal

pub returns-clause-second : goal.returns-clause-second
returns-clause-second c = ok_map c.split.result (λ p is. alone_has c.args.pass.now.place.me.0 p.place.me.0 1 is (c.requires.callers 1 (omega arith))) c.split.ensures.right
