use Rattle.std.proofs.Common.{sym, ◌∙◌, arith}
use Rattle.vm_model.specs.PageSets.{has_page}
use Rattle.vm_model.proofs.Finds.{count_yes, count_no, count_few}
use Rattle.vm_model.proofs.areas.PageSet.count.Goals as goal
use Rattle.vm_model.proofs.areas.PageSet.count.Goals.{then-contains, else-contains}

pub overflow_add-found : goal.overflow_add-found
overflow_add-found c = omega (arith, count_few (has_page c.args.self) c.loop-page.page 0, c.loop-page.invariant)

pub loop-page-preserved : goal.loop-page-preserved
loop-page-preserved c = elim c.if-contains.branch [
  | then-contains w ↦ w.found-is ∙ count_yes (has_page c.args.self) c.loop-page.page c.loop-page.found c.loop-page.invariant (sym c.contains.ensures ∙ w.if-contains.true)
  | else-contains w ↦ w.found-is ∙ count_no (has_page c.args.self) c.loop-page.page c.loop-page.found c.loop-page.invariant (sym c.contains.ensures ∙ w.if-contains.false)
]
