use Rattle.std.proofs.Common.{arith}
use Rattle.trace_text.proofs.PickProofs.{none_picked, one_picked, picked_before, last_picked, last_told, not_picked, last_not_picked, too_many}
use Rattle.trace_text.proofs.picks.read_picks.Goals as goal

pub loop-count-init : goal.loop-count-init
loop-count-init c = none_picked c.args.callers c.args.text.now c.args.picks.now.items

pub returns-in_default-pick : goal.returns-in_default-pick
returns-in_default-pick c = last_not_picked c.args.callers c.args.text.now c.loop-count.rest.now c.args.picks.now.items c.loop-count.picks.items c.loop-count.picks.items c.loop-count._count (omega arith) c.loop-count.invariant
    c.in_default-cut.ensures.none c.in_default-pick.ensures.none

pub returns-in_default-cut : goal.returns-in_default-cut
returns-in_default-cut c = last_picked c.args.callers c.args.text.now c.loop-count.rest.now c.args.picks.now.items c.loop-count.picks.items c.push-in_default-cut.new.self.items c.loop-count._count c.in-Some-pick.caller c.loop-count.invariant (omega arith)
    c.in_default-cut.ensures.none c.in-Some-pick.ensures.some.0 c.in-Some-pick.ensures.some.1 c.in_ok-push-3.ensures.items

pub returns-in-Some-last_digit : goal.returns-in-Some-last_digit
returns-in-Some-last_digit c = last_told c.args.callers c.args.text.now c.loop-count.rest.now c.args.picks.now.items c.loop-count.picks.items _ c.loop-count._count c.in-Some-last_digit.caller (omega arith) c.loop-count.invariant (omega arith)
    c.in-Some-last_digit.ensures.0 c.in-Some-last_digit.ensures.1 c.in_ok-push-2.ensures.items

pub returns-in_default-pick-2 : goal.returns-in_default-pick-2
returns-in_default-pick-2 c = not_picked c.args.callers c.args.text.now c.loop-count.rest.now c.in-Some-cut.field.now c.in-Some-cut.more.now c.args.picks.now.items c.loop-count.picks.items c.loop-count.picks.items c.loop-count._count (omega arith)
    c.loop-count.invariant c.in-Some-cut.ensures.some.0 c.in-Some-cut.ensures.some.1 c.in_default-pick-2.ensures.none

pub loop-count-preserved-in-Some : goal.loop-count-preserved-in-Some
loop-count-preserved-in-Some c = picked_before c.args.callers c.args.text.now c.loop-count.rest.now c.in-Some.more.now c.args.picks.now.items c.loop-count.picks.items c.push.new.self.items c.loop-count._count c.in-Some.caller
    (omega arith) c.loop-count.invariant c.in-Some.ensures.0 c.in-Some.ensures.1 c.in_ok-push.ensures.items

pub loop-count-preserved : goal.loop-count-preserved
loop-count-preserved c = one_picked c.args.callers c.args.text.now c.loop-count.rest.now c.in-Some-cut.field.now c.in-Some-cut.more.now c.args.picks.now.items c.loop-count.picks.items c.push-in-loop-count.new.self.items c.loop-count._count
    c.in-Some-pick-2.caller c.loop-count.invariant c.in-Some-cut.ensures.some.0 c.in-Some-cut.ensures.some.1 c.in-Some-pick-2.ensures.some.0 c.in-Some-pick-2.ensures.some.1 c.in_ok-push-4.ensures.items

pub returns : goal.returns
returns c = too_many c.args.callers c.args.text.now c.loop-count.rest.now c.args.picks.now.items c.loop-count.picks.items c.loop-count.picks.items c.loop-count._count (omega arith) c.loop-count.invariant (omega arith)
