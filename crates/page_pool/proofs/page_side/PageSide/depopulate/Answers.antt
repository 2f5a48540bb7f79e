use Rattle.std.proofs.Common.{◌+◌, Some, drop, get_or, ap, subst}
use Rattle.std.proofs.lemmas.Option.{slice_get_within}
use Rattle.vm_model.specs.PageSets.{pages_in}
use Rattle.page_pool.specs.Units.{pages_in_unit, pages_at}
use Rattle.page_pool.proofs.UnitPageLists.{units_from, units_end, among_front}
use Rattle.page_pool.proofs.Depopulating.{IsDepopulating, depopulating_first, depopulating_some, depopulating_last}
use Rattle.page_pool.proofs.page_side.PageSide.depopulate.Goals as goal

pub loop-unit-init : goal.loop-unit-init
loop-unit-init c =
    depopulating_first (pages_at c.args.base c.args.units.now (pages_in c.args.pages)) c.args.self.now
    (λ page h. let at = c.requires.mapped page h in slice_get_within c.args.self.now.frames page (Some at.0) at.1)

pub unmap_unit-requires : goal.unmap_unit-requires
unmap_unit-requires c = λ page h.
    let set = pages_in c.args.pages in
    let index = c.loop-unit.unit-index in
    let next = ap (λ units. pages_at c.args.base units set) (units_from c.args.units.now index c.loop-unit-test.true) in
    let here = subst (λ rest. IsDepopulating (pages_at c.args.base c.args.units.now set) c.args.self.now rest c.loop-unit.self) next c.loop-unit.invariant in
    here.inside page (among_front (pages_in_unit c.args.base (get_or c.args.units.now index 0) set) (pages_at c.args.base (drop (index + 1) c.args.units.now) set) page h)

pub loop-unit-preserved : goal.loop-unit-preserved
loop-unit-preserved c =
    let set = pages_in c.args.pages in
    let index = c.loop-unit.unit-index in
    let all = pages_at c.args.base c.args.units.now set in
    let next = ap (λ units. pages_at c.args.base units set) (units_from c.args.units.now index c.loop-unit-test.true) in
    let here = subst (λ rest. IsDepopulating all c.args.self.now rest c.loop-unit.self) next c.loop-unit.invariant in
    depopulating_some all c.args.self.now (pages_in_unit c.args.base (get_or c.args.units.now index 0) set) (pages_at c.args.base (drop (index + 1) c.args.units.now) set) c.loop-unit.self c.unmap_unit.new.self here c.unmap_unit.ensures

pub returns : goal.returns
returns c = record {
  unmapped = depopulating_last _ _ _ _ (ap (λ units. pages_at c.args.base units (pages_in c.args.pages)) (units_end c.args.units.now c.loop-unit.unit-index c.loop-unit-test.false)) c.loop-unit.invariant;
}
