use Rattle.std.proofs.Common.{◌∷◌, ◌++◌, decimal}
use Rattle.std.specs.Fmt.{signed_decimal}
use Rattle.trace_text.proofs.Pairs.{field_parts}
use Rattle.trace_text.proofs.fields.numbered_amount.Goals as goal

pub returns-in_default-pair_and_amount-clause-none : goal.returns-in_default-pair_and_amount-clause-none
returns-in_default-pair_and_amount-clause-none c = λ field a b z clean h k m e.
    let parts = field_parts c.args.text.now c.in-Some.field.now c.in-Some.rest.now field (decimal a ++ 32 ∷ (decimal b ++ 32 ∷ signed_decimal z)) c.in-Some.ensures.some.1 c.in-Some.ensures.some.0 clean e in
    c.in_default-pair_and_amount.ensures.none a b z h k m parts.1
