use Rattle.std.proofs.Common.{◌≡◌, ◌+◌, ◌-◌, ◌<◌, ◌∷◌, [], true, ap, sym, ◌∙◌, arith}
use Rattle.std.proofs.lemmas.Bool.Decides.{nat_tests}
use Rattle.std.proofs.lemmas.Fmt.{decimal_digit}
use Rattle.vm_model.specs.Words.{within}
use Rattle.trace_text.proofs.picks.digit_pick.Goals as goal

pub returns : goal.returns
returns c =
    let caller = c.from-caller.result in
    let same : caller ≡ c.args.digit - 48 = c.from-caller.ensures in
    let known : within 1 c.args.callers caller ≡ true = grind (arith, nat_tests) in
    let few : caller < 10 = omega arith in
    let byte : 48 + caller ≡ c.args.digit = omega arith in
    (known, sym (decimal_digit caller few ∙ ap (λ b. b ∷ []) byte))
