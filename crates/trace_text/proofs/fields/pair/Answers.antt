use Rattle.std.proofs.Common.{decimal}
use Rattle.trace_text.proofs.Pairs.{second_parts}
use Rattle.trace_text.proofs.fields.pair.Goals as goal

pub returns-in_default-number-clause-none : goal.returns-in_default-number-clause-none
returns-in_default-number-clause-none c = λ a b h k e.
    let parts = second_parts c.args.text.now c.in-Some.first.now c.in-Some.second.now a (decimal b) c.in-Some.ensures.some.1 c.in-Some.ensures.some.0 h e in
    c.in_default-number.ensures.none a h parts.0

pub returns-in_default-number-2-clause-none : goal.returns-in_default-number-2-clause-none
returns-in_default-number-2-clause-none c = λ a b h k e.
    let parts = second_parts c.args.text.now c.in-Some.first.now c.in-Some.second.now a (decimal b) c.in-Some.ensures.some.1 c.in-Some.ensures.some.0 h e in
    c.in_default-number-2.ensures.none b k parts.1
