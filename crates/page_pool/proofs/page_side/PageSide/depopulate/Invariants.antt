use Rattle.std.proofs.Common.{drop}
use Rattle.vm_model.specs.PageSets.{pages_in}
use Rattle.page_pool.specs.Units.{pages_at}
use Rattle.page_pool.proofs.Depopulating.{IsDepopulating}
use Rattle.page_pool.proofs.page_side.PageSide.depopulate.Given as goal

abbrev pub invariant-loop-unit : goal.invariant-loop-unit
invariant-loop-unit l = IsDepopulating (pages_at l.base l.units (pages_in l.pages)) l.initial.self (pages_at l.base (drop l.unit-index l.units) (pages_in l.pages)) l.self
