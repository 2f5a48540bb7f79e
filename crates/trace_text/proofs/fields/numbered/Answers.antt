use Rattle.std.proofs.Common.{decimal}
use Rattle.trace_text.proofs.Pairs.{field_parts}
use Rattle.trace_text.proofs.fields.numbered.Goals as goal

pub returns-in_default-number-clause-none : goal.returns-in_default-number-clause-none
returns-in_default-number-clause-none c = λ field n clean h e.
    let parts = field_parts c.args.text.now c.in-Some.field.now c.in-Some.last.now field (decimal n) c.in-Some.ensures.some.1 c.in-Some.ensures.some.0 clean e in
    c.in_default-number.ensures.none n h parts.1
