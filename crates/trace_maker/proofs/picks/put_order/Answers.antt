use Rattle.std.proofs.Common.{refl}
use Rattle.trace_maker.proofs.PickLines.{one_line, no_line_left}
use Rattle.trace_maker.proofs.picks.put_order.Goals as goal

pub loop-left-init : goal.loop-left-init
loop-left-init c = λ lines room. record { rest = lines; room = room; text = refl }

pub loop-left-preserved : goal.loop-left-preserved
loop-left-preserved c = λ lines room. one_line c.min-count.result c.put_picks.new.draws.state c.put_picks.new.text.items c.loop-left-test.true c.min-count.ensures c.in_ok-put_picks.ensures.state c.in_ok-put_picks.ensures.text (c.loop-left.invariant lines room)

pub returns : goal.returns
returns c = λ lines room. no_line_left c.loop-left-test.false (c.loop-left.invariant lines room)
