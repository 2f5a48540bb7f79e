use Rattle.vm_model.specs.PageSets.{pages_in}
use Rattle.page_pool.specs.Units.{pages_in_unit}
use Rattle.page_pool.proofs.UnitPageLists.{pages_from}
use Rattle.page_pool.proofs.Depopulating.{IsDepopulating}
use Rattle.page_pool.proofs.page_side.PageSide.unmap_unit.Given as goal

abbrev pub invariant-loop-page : goal.invariant-loop-page
invariant-loop-page l = IsDepopulating (pages_in_unit l.base l.unit (pages_in l.pages)) l.initial.self (pages_in_unit l.base l.unit (pages_from l.pages l.page)) l.self
