use Rattle.std.proofs.Common.{◌≡◌, ◌+◌, true, ap, sym, ◌∙◌, subst, arith}
use Rattle.vm_model.specs.PageSets.{has_page, pages_in}
use Rattle.page_pool.specs.Units.{pages_in_unit}
use Rattle.page_pool.proofs.UnitPageLists.{pages_from, pages_from-first, pages_from-has, pages_from-lacks, pages_from-end, length-pages_in_unit}
use Rattle.page_pool.proofs.Populating.{IsPopulating, populating_first, populating_next, populating_last}
use Rattle.page_pool.proofs.page_side.PageSide.map_unit.Goals as goal
use Rattle.page_pool.proofs.page_side.PageSide.map_unit.Goals.{then-contains, else-contains}

pub loop-page-init : goal.loop-page-init
loop-page-init c =
    let all = pages_in_unit c.args.base c.args.unit (pages_in c.args.pages) in
    subst (λ rest. IsPopulating all c.args.self.now (pages_in_unit c.args.base c.args.unit rest) c.args.self.now) (pages_from-first c.args.pages)
    (populating_first all c.args.self.now c.requires.bare (omega (arith, length-pages_in_unit c.args.base c.args.unit (pages_in c.args.pages))))

pub map_page-requires : goal.map_page-requires
map_page-requires c =
    let has : has_page c.args.pages c.loop-page.page ≡ true = sym c.contains.ensures ∙ c.if-contains.true in
    let next = ap (pages_in_unit c.args.base c.args.unit) (pages_from-has c.args.pages c.loop-page.page c.loop-page-test.true has) in
    let here = subst (λ rest. IsPopulating (pages_in_unit c.args.base c.args.unit (pages_in c.args.pages)) c.args.self.now rest c.loop-page.self) next c.loop-page.invariant in
    record { bare = here.bare.0; enough = let some = here.enough in omega arith }

pub loop-page-preserved : goal.loop-page-preserved
loop-page-preserved c =
    let all = pages_in_unit c.args.base c.args.unit (pages_in c.args.pages) in
    elim c.if-contains.branch [
      | then-contains w ↦
          let next = ap (pages_in_unit c.args.base c.args.unit) (pages_from-has c.args.pages c.loop-page.page c.loop-page-test.true (sym c.contains.ensures ∙ w.if-contains.true)) in
          let here = subst (λ rest. IsPopulating all c.args.self.now rest c.loop-page.self) next c.loop-page.invariant in
          populating_next all c.args.self.now (c.args.base + c.args.unit + c.loop-page.page) (pages_in_unit c.args.base c.args.unit (pages_from c.args.pages (c.loop-page.page + 1))) c.loop-page.self
          c.if-contains.self here (w.self-is ∙ w.map_page.ensures)
      | else-contains w ↦
          let same = ap (pages_in_unit c.args.base c.args.unit) (pages_from-lacks c.args.pages c.loop-page.page c.loop-page-test.true (sym c.contains.ensures ∙ w.if-contains.false)) in
          subst (IsPopulating all c.args.self.now (pages_in_unit c.args.base c.args.unit (pages_from c.args.pages (c.loop-page.page + 1)))) (sym w.self-is)
          (subst (λ rest. IsPopulating all c.args.self.now rest c.loop-page.self) same c.loop-page.invariant)
    ]

pub returns : goal.returns
returns c = populating_last _ _ _ _ (ap (pages_in_unit c.args.base c.args.unit) (pages_from-end c.args.pages c.loop-page.page (omega arith))) c.loop-page.invariant
