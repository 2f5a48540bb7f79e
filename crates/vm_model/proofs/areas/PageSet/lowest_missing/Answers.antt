use Rattle.std.proofs.Common.{ℕ, Bool, ◌≡◌, ◌+◌, ◌-◌, not, find, sym, ap, ◌∙◌, arith}
use Rattle.vm_model.specs.Space.{count_from}
use Rattle.vm_model.specs.PageSets.{has_page}
use Rattle.vm_model.proofs.Finds.{find_here, find_skip, find_none, first_kept}
use Rattle.vm_model.proofs.areas.PageSet.lowest_missing.Goals as goal

pub returns-then-not-contains : goal.returns-then-not-contains
returns-then-not-contains c =
    let test : ℕ → Bool = λ page. not (has_page c.args.self page) in
    sym
    (first_kept test (count_from c.args.pages 0) ∙ c.loop-page.invariant
    ∙ find_here test c.args.pages c.loop-page.page c.loop-page-test.true (ap not (sym c.contains.ensures ∙ c.if-not-contains.true)))

pub loop-page-preserved : goal.loop-page-preserved
loop-page-preserved c =
    let test : ℕ → Bool = λ page. not (has_page c.args.self page) in
    c.loop-page.invariant
    ∙ find_skip test c.args.pages c.loop-page.page (c.loop-page.page + 1) (omega arith) (omega arith)
    (λ i low high. let same : i ≡ c.loop-page.page = omega arith in ap test same ∙ ap not (sym c.contains.ensures ∙ c.if-not-contains.false))

pub returns : goal.returns
returns c =
    let test : ℕ → Bool = λ page. not (has_page c.args.self page) in
    sym
    (first_kept test (count_from c.args.pages 0) ∙ c.loop-page.invariant
    ∙ find_none test c.args.pages c.loop-page.page c.loop-page.auto.page-end (λ i low high. absurd (omega arith)))

pub loop-page-init : goal.loop-page-init
loop-page-init c = let same : c.args.pages ≡ c.args.pages - 0 = omega arith in ap (λ n. find (λ page. not (has_page c.args.self page)) (count_from n 0)) same
