use Rattle.std.proofs.Common.{arith}
use Rattle.vm_model.proofs.Halves.{halved_first, halved_more, halved_high, halved_last, digits_below}
use Rattle.vm_model.proofs.digits.binary_digits.Goals as goal

pub loop-rest-init : goal.loop-rest-init
loop-rest-init c = halved_first c.args.number c.ranges.number.fits

pub overflow_add-digits : goal.overflow_add-digits
overflow_add-digits c = let low = halved_high _ _ _ c.loop-rest.invariant c.loop-rest-test.true in omega arith

pub loop-rest-preserved : goal.loop-rest-preserved
loop-rest-preserved c = halved_more _ _ _ c.loop-rest.invariant c.loop-rest-test.true

pub returns-clause-digits : goal.returns-clause-digits
returns-clause-digits c = halved_last _ _ _ c.loop-rest.invariant c.loop-rest-test.false

pub returns-clause-most : goal.returns-clause-most
returns-clause-most c = c.loop-rest.invariant.high

pub returns-clause-least : goal.returns-clause-least
returns-clause-least c = digits_below _ _ (halved_last _ _ _ c.loop-rest.invariant c.loop-rest-test.false)
