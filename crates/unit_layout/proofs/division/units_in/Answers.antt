use Rattle.std.proofs.Common.{◌/◌, ◌≡◌, ◌<◌, ◌≤◌, ◌-◌, ◌+◌, refl, sym, ◌∙◌, ap, arith}
use Rattle.unit_layout.specs.LayoutRule as rule
use Rattle.unit_layout.proofs.Ceilings.{few_units, allocations_one}
use Rattle.unit_layout.proofs.UnitSearch.{kept_below, kept_here, undivided_here, passed_over_here, search_begins, search_ends, search_goes, little_here, much_here}
use Rattle.unit_layout.proofs.division.units_in.Goals.{else-pages-units-eq0-via-then-pages-units-eq0+else-units-here, else-pages-units-eq0-via-else-pages-units-eq0}
use Rattle.unit_layout.proofs.division.units_in.Goals as goal

pub loop-fewer-init : goal.loop-fewer-init
loop-fewer-init c = record {
  units = search_begins c.args.groups.now (kept_below c.args.groups.now c.args.pages (c.args.pages / c.args.unit));
  most = c.processors-processors.ensures ∙ sym (allocations_one c.args.groups.now);
  taken = record { low = omega arith; high = omega arith };
  fewer = few_units c.args.pages c.args.unit c.requires.pages c.requires.unit;
}

pub returns-then-here-most-clause-units : goal.returns-then-here-most-clause-units
returns-then-here-most-clause-units c =
    let little = little_here _ _ _ _ _ c.processors-processors.ensures c.allocations-here.ensures.allocations c.if-units-here.true in
    let here = kept_here c.args.groups.now c.args.pages c.loop-fewer.fewer (c.loop-fewer.fewer - 1 + 1) (omega arith) refl c.if-pages-units-eq0.true little in
    let more : rule.allocations c.args.groups.now c.loop-fewer.taken < rule.allocations c.args.groups.now (c.loop-fewer.fewer - 1 + 1) = omega arith in
    sym (search_ends c.args.groups.now c.loop-fewer.taken (c.loop-fewer.fewer - 1 + 1) (kept_below c.args.groups.now c.args.pages (c.loop-fewer.fewer - 1)) more)
    ∙ ap (rule.taken_after c.args.groups.now c.loop-fewer.taken) (sym here) ∙ c.loop-fewer.invariant.units

pub loop-fewer-preserved : goal.loop-fewer-preserved
loop-fewer-preserved c =
    let same : kept_below c.args.groups.now c.args.pages c.loop-fewer.fewer ≡ kept_below c.args.groups.now c.args.pages (c.loop-fewer.fewer - 1) =
    elim c.else-pages-units-eq0.branch [
      | else-pages-units-eq0-via-then-pages-units-eq0+else-units-here w ↦ passed_over_here c.args.groups.now c.args.pages c.loop-fewer.fewer (c.loop-fewer.fewer - 1 + 1) (omega arith) refl w.if-pages-units-eq0.true (much_here _ _ _ _ _ c.processors-processors.ensures c.allocations-here.ensures.allocations w.if-units-here.false)
      | else-pages-units-eq0-via-else-pages-units-eq0 w ↦ undivided_here c.args.groups.now c.args.pages c.loop-fewer.fewer (c.loop-fewer.fewer - 1 + 1) (omega arith) refl w.if-pages-units-eq0.false
    ] in
    record {
      units = ap (rule.taken_after c.args.groups.now c.loop-fewer.taken) (sym same) ∙ c.loop-fewer.invariant.units;
      most = c.loop-fewer.invariant.most;
      taken = c.loop-fewer.invariant.taken;
      fewer = omega arith;
    }

pub loop-fewer-preserved-then-units-here : goal.loop-fewer-preserved-then-units-here
loop-fewer-preserved-then-units-here c =
    let little = little_here _ _ _ _ _ c.processors-processors.ensures c.allocations-here.ensures.allocations c.if-units-here.true in
    let here = kept_here c.args.groups.now c.args.pages c.loop-fewer.fewer (c.loop-fewer.fewer - 1 + 1) (omega arith) refl c.if-pages-units-eq0.true little in
    let fewer : rule.allocations c.args.groups.now (c.loop-fewer.fewer - 1 + 1) ≤ rule.allocations c.args.groups.now c.loop-fewer.taken = omega arith in
    record {
      units = sym (search_goes c.args.groups.now c.loop-fewer.taken (c.loop-fewer.fewer - 1 + 1) (kept_below c.args.groups.now c.args.pages (c.loop-fewer.fewer - 1)) fewer)
          ∙ ap (rule.taken_after c.args.groups.now c.loop-fewer.taken) (sym here) ∙ c.loop-fewer.invariant.units;
      most = c.allocations-here.ensures.allocations;
      taken = record { low = omega arith; high = omega arith };
      fewer = omega arith;
    }
