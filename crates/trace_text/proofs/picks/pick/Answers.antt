use Rattle.std.proofs.Common.{◌≡◌, ◌∙◌, ℕ, ◌<◌, ◌≤◌, ◌^◌, true, sym, arith}
use Rattle.std.proofs.lemmas.Bool.Decides.{nat_tests}
use Rattle.std.proofs.lemmas.Fmt.{decimal_injective}
use Rattle.vm_model.specs.Words.{within}
use Rattle.trace_text.proofs.Guess.{small}
use Rattle.trace_text.proofs.picks.pick.Goals as goal

among : (callers n : ℕ) → within 1 callers n ≡ true → (1 ≤ n) × (n ≤ callers)
among callers n h = grind (arith, nat_tests)

pub returns-then-caller-lt1-clause-none : goal.returns-then-caller-lt1-clause-none
returns-then-caller-lt1-clause-none c = λ n h e.
    let range = among c.args.callers n h in
    let few : n < 2 ^ 64 = omega arith in
    let same : c.in-Some.caller ≡ n = decimal_injective c.in-Some.caller n (small c.in-Some.caller c.in-Some.ensures.some.0) few (sym c.in-Some.ensures.some.1 ∙ e) in
    grind arith
