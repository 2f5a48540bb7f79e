use Rattle.std.proofs.Common.{◌∷◌, ◌++◌, decimal, subst, true, ◌≡◌}
use Rattle.std.specs.Fmt.{signed_decimal}
use Rattle.vm_model.specs.Words.{lacks}
use Rattle.trace_text.proofs.Pairs.{second_parts}
use Rattle.trace_text.proofs.Split.{has_cut}
use Rattle.trace_text.proofs.fields.pair_and_amount.Goals as goal

pub returns-in_default-cut-clause-none : goal.returns-in_default-cut-clause-none
returns-in_default-cut-clause-none c = λ a b z h k m e.
    let first = second_parts c.args.text.now c.in-Some.first.now c.in-Some.rest.now a (decimal b ++ 32 ∷ signed_decimal z) c.in-Some.ensures.some.1 c.in-Some.ensures.some.0 h e in
    has_cut 32 (decimal b) (signed_decimal z) (subst (λ t. lacks 32 t ≡ true) first.1 c.in_default-cut.ensures.none)

pub returns-in_default-number-clause-none : goal.returns-in_default-number-clause-none
returns-in_default-number-clause-none c = λ a b z h k m e.
    let first = second_parts c.args.text.now c.in-Some.first.now c.in-Some.rest.now a (decimal b ++ 32 ∷ signed_decimal z) c.in-Some.ensures.some.1 c.in-Some.ensures.some.0 h e in
    c.in_default-number.ensures.none a h first.0

pub returns-in_default-number-2-clause-none : goal.returns-in_default-number-2-clause-none
returns-in_default-number-2-clause-none c = λ a b z h k m e.
    let first = second_parts c.args.text.now c.in-Some.first.now c.in-Some.rest.now a (decimal b ++ 32 ∷ signed_decimal z) c.in-Some.ensures.some.1 c.in-Some.ensures.some.0 h e in
    let second = second_parts c.in-Some.rest.now c.in-Some-cut.second.now c.in-Some-cut.last.now b (signed_decimal z) c.in-Some-cut.ensures.some.1 c.in-Some-cut.ensures.some.0 k first.1 in
    c.in_default-number-2.ensures.none b k second.0

pub returns-in_default-amount-clause-none : goal.returns-in_default-amount-clause-none
returns-in_default-amount-clause-none c = λ a b z h k m e.
    let first = second_parts c.args.text.now c.in-Some.first.now c.in-Some.rest.now a (decimal b ++ 32 ∷ signed_decimal z) c.in-Some.ensures.some.1 c.in-Some.ensures.some.0 h e in
    let second = second_parts c.in-Some.rest.now c.in-Some-cut.second.now c.in-Some-cut.last.now b (signed_decimal z) c.in-Some-cut.ensures.some.1 c.in-Some-cut.ensures.some.0 k first.1 in
    c.in_default-amount.ensures.none z m second.1
