use Rattle.std.proofs.Common.{◌≤◌, ◌*◌, ℕ}
use Rattle.trace_maker.proofs.PickLines.{AreLinesLeft}
use Rattle.trace_maker.proofs.picks.put_order.Given as goal

abbrev pub invariant-loop-left : goal.invariant-loop-left
invariant-loop-left l = (lines : ℕ) → l.picks ≤ 32 * lines → AreLinesLeft l.left l.draws.state l.text.items lines l.picks l.fn.draws.state l.fn.text.items

abbrev pub decreases-loop-left : goal.decreases-loop-left
decreases-loop-left l = l.left
