use Rattle.std.proofs.Common.{arith, subst}
use Rattle.trace_text.specs.HeldLines.{AddsPicks}
use Rattle.trace_text.proofs.OrderLine.{order_stands, order_stuck}
use Rattle.trace_text.proofs.lines.read_order.Goals as goal
use Rattle.trace_text.proofs.lines.read_order.Goals.{then-progress-lt-SPACE-via-then-progress-lt-SPACE, then-progress-lt-SPACE-via-else-progress-lt-SPACE+then-progress-gt-ORDER}

pub returns-then-progress-lt-SPACE : goal.returns-then-progress-lt-SPACE
returns-then-progress-lt-SPACE c = λ r held. order_stuck c.args.progress.now c.args.progress.now r c.args.text.now held (λ low high picks are. elim c.then-progress-lt-SPACE.branch [
  | then-progress-lt-SPACE-via-then-progress-lt-SPACE w ↦ let early = w.if-progress-lt-SPACE.true in omega arith
  | then-progress-lt-SPACE-via-else-progress-lt-SPACE+then-progress-gt-ORDER w ↦ let late = w.if-progress-gt-ORDER.true in omega arith
])

pub returns : goal.returns
returns c = λ r held. order_stands c.args.progress.now (record c.args.progress.now { picks = c.read_picks.new.picks }) r c.args.text.now held (omega arith) (omega arith) (omega arith)
    (subst (λ b. AddsPicks c.args.progress.now.callers c.args.text.now b c.args.progress.now.picks.items c.read_picks.new.picks.items) c.if-not-branch.false c.in_ok-read_picks.ensures)
