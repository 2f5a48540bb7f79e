use Rattle.std.proofs.Common.{◌≡◌, ◌<◌, ◌≤◌, true, inl, inr, subst, arith}
use Rattle.std.proofs.lemmas.Bool.{cases_lt}
use Rattle.std.proofs.lemmas.Bool.Decides.{nat_tests}
use Rattle.vm_model.specs.Space.{covers, end_of}
use Rattle.augmented_tree.proofs.FoundPages.{covered_if_some}
use Rattle.tests_free_tree.proofs.looks.are_free.Goals as goal

pub loop-page-init : goal.loop-page-init
loop-page-init c page low high = absurd (omega arith)

pub loop-page-preserved : goal.loop-page-preserved
loop-page-preserved c page low high =
    let blocks = c.args.side.now.blocks in
    let here : covers blocks c.loop-page.page ≡ true = covered_if_some c.loop-page.page blocks c.enclosing.result c.enclosing.ensures.block c.if-is_none.ensures in
    elim (cases_lt page c.loop-page.page) [
      | inl earlier ↦ c.loop-page.invariant page low earlier
      | inr later ↦ let same : c.loop-page.page ≡ page = omega arith in subst (λ p. covers blocks p ≡ true) same here
    ]

pub returns : goal.returns
returns c all page h =
    let low : c.args.span.start ≤ page = grind (arith, nat_tests) in
    let high : page < end_of c.args.span = grind (arith, nat_tests) in
    let past = c.loop-page-test.false in
    c.loop-page.invariant page low (omega arith)
