use Rattle.std.proofs.Common.{◌≡◌, ◌+◌, ◌-◌, ap, arith}
use Rattle.trace_maker.specs.Generated.{made}
use Rattle.trace_maker.proofs.Makings.{one_call, no_call_left}
use Rattle.trace_maker.proofs.maker.add_lines.Goals as goal

pub loop-number-init : goal.loop-number-init
loop-number-init c = λ m a. record { making = m; so_far = a; rest = let all : c.args.calls + 1 - 1 ≡ c.args.calls = omega arith in ap (λ n. made n 1 m) all }

pub loop-number-preserved : goal.loop-number-preserved
loop-number-preserved c = λ m a. one_call c.loop-number.number (c.args.calls + 1) c.loop-number.draws.state c.args.calls c.add_one.new.draws.state c.loop-number.sections c.add_one.new.sections m c.loop-number-test.true (c.loop-number.invariant m a) c.in_ok-add_one.ensures

pub returns : goal.returns
returns c = λ m a. no_call_left c.loop-number.number (c.args.calls + 1) c.loop-number.draws.state c.args.calls c.loop-number.sections m c.loop-number-test.false (c.loop-number.invariant m a)
