use Rattle.populate_balance.proofs.Unpopulated.{IsPast}
use Rattle.populate_balance.proofs.fill.next_page.Given as goal

abbrev pub invariant-loop-place : goal.invariant-loop-place
invariant-loop-place l = IsPast l.fn.side l.place
