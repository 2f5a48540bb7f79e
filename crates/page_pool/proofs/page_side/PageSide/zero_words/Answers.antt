use Rattle.std.proofs.Common.{◌+◌, drop, slice_get, ap, refl, sym, subst, ◌∙◌}
use Rattle.vm_model.specs.Frames.{pages_of_bytes}
use Rattle.page_pool.specs.PageMap.{Pages}
use Rattle.page_pool.specs.Units.{with_zeroed}
use Rattle.page_pool.specs.MemoryWords.{AreBlank}
use Rattle.page_pool.proofs.BlankWords.{zeroed-blank}
use Rattle.page_pool.proofs.UnitPageLists.{units_from, units_end, among_units}
use Rattle.page_pool.proofs.page_side.PageSide.zero_words.Goals as goal

pub returns-then-is_blank : goal.returns-then-is_blank
returns-then-is_blank c = record {
  zeroed = sym (zeroed-blank c.args.base c.args.units.now c.args.off c.args.bytes c.args.self.now (subst (λ (p : Pages). AreBlank p.cells) c.self.view_is (c.if-is_blank.ensures refl)));
}

pub zero_unit-requires : goal.zero_unit-requires
zero_unit-requires c = λ page h.
    let mapped = c.requires.mapped page (among_units c.args.base c.args.units.now (pages_of_bytes c.args.off c.args.bytes) c.loop-unit.unit-index page c.loop-unit-test.true h) in
    (mapped.0, ap (λ frames. slice_get frames page) c.loop-unit.invariant.frames ∙ mapped.1)

pub loop-unit-preserved : goal.loop-unit-preserved
loop-unit-preserved c =
    let index = c.loop-unit.unit-index in
    record {
      same = ap (with_zeroed c.args.base (drop (index + 1) c.args.units.now) c.args.off c.args.bytes) c.zero_unit.ensures
          ∙ sym (ap (λ units. with_zeroed c.args.base units c.args.off c.args.bytes c.loop-unit.self) (units_from c.args.units.now index c.loop-unit-test.true)) ∙ c.loop-unit.invariant.same;
      frames = ap (λ (p : Pages). p.frames) c.zero_unit.ensures ∙ c.loop-unit.invariant.frames;
    }

pub returns : goal.returns
returns c = record {
  zeroed = sym (ap (λ units. with_zeroed c.args.base units c.args.off c.args.bytes c.loop-unit.self) (units_end c.args.units.now c.loop-unit.unit-index c.loop-unit-test.false)) ∙ c.loop-unit.invariant.same;
}
