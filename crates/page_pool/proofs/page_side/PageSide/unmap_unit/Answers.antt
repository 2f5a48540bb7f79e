use Rattle.std.proofs.Common.{◌≡◌, ◌+◌, true, ap, sym, ◌∙◌, subst, arith}
use Rattle.vm_model.specs.PageSets.{has_page, pages_in}
use Rattle.page_pool.specs.Units.{pages_in_unit}
use Rattle.page_pool.proofs.UnitPageLists.{pages_from, pages_from-first, pages_from-has, pages_from-lacks, pages_from-end, among_first}
use Rattle.page_pool.proofs.Depopulating.{IsDepopulating, depopulating_first, depopulating_next, depopulating_last}
use Rattle.page_pool.proofs.page_side.PageSide.unmap_unit.Goals as goal
use Rattle.page_pool.proofs.page_side.PageSide.unmap_unit.Goals.{then-contains, else-contains}

pub loop-page-init : goal.loop-page-init
loop-page-init c =
    let all = pages_in_unit c.args.base c.args.unit (pages_in c.args.pages) in
    subst (λ rest. IsDepopulating all c.args.self.now (pages_in_unit c.args.base c.args.unit rest) c.args.self.now) (pages_from-first c.args.pages) (depopulating_first all c.args.self.now c.requires)

pub unmap_page-requires : goal.unmap_page-requires
unmap_page-requires c =
    let page = c.args.base + c.args.unit + c.loop-page.page in
    let has : has_page c.args.pages c.loop-page.page ≡ true = sym c.contains.ensures ∙ c.if-contains.true in
    let next = ap (pages_in_unit c.args.base c.args.unit) (pages_from-has c.args.pages c.loop-page.page c.loop-page-test.true has) in
    let here = subst (λ rest. IsDepopulating (pages_in_unit c.args.base c.args.unit (pages_in c.args.pages)) c.args.self.now rest c.loop-page.self) next c.loop-page.invariant in
    here.inside page (among_first page (pages_in_unit c.args.base c.args.unit (pages_from c.args.pages (c.loop-page.page + 1))))

pub loop-page-preserved : goal.loop-page-preserved
loop-page-preserved c =
    let all = pages_in_unit c.args.base c.args.unit (pages_in c.args.pages) in
    elim c.if-contains.branch [
      | then-contains w ↦
          let next = ap (pages_in_unit c.args.base c.args.unit) (pages_from-has c.args.pages c.loop-page.page c.loop-page-test.true (sym c.contains.ensures ∙ w.if-contains.true)) in
          let here = subst (λ rest. IsDepopulating all c.args.self.now rest c.loop-page.self) next c.loop-page.invariant in
          depopulating_next all c.args.self.now (c.args.base + c.args.unit + c.loop-page.page) (pages_in_unit c.args.base c.args.unit (pages_from c.args.pages (c.loop-page.page + 1))) c.loop-page.self
          c.if-contains.self here (w.self-is ∙ w.unmap_page.ensures)
      | else-contains w ↦
          let same = ap (pages_in_unit c.args.base c.args.unit) (pages_from-lacks c.args.pages c.loop-page.page c.loop-page-test.true (sym c.contains.ensures ∙ w.if-contains.false)) in
          subst (IsDepopulating all c.args.self.now (pages_in_unit c.args.base c.args.unit (pages_from c.args.pages (c.loop-page.page + 1)))) (sym w.self-is)
          (subst (λ rest. IsDepopulating all c.args.self.now rest c.loop-page.self) same c.loop-page.invariant)
    ]

pub returns : goal.returns
returns c = depopulating_last _ _ _ _ (ap (pages_in_unit c.args.base c.args.unit) (pages_from-end c.args.pages c.loop-page.page (omega arith))) c.loop-page.invariant
