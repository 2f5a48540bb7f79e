use Rattle.std.proofs.Common.{◌≡◌, ℕ, ◌≤◌, All, get_or, subst, arith}
use Rattle.std.proofs.lemmas.List.{take_all}
use Rattle.std.proofs.lemmas.List.Elements.{All-more, All-get_or}
use Rattle.unit_layout.specs.declared.layout.Group.{Group}
use Rattle.augmented_tree.specs.FreeBlocks.{IsFree}
use Rattle.congruent_areas.specs.GroupsAtBase.{IsBase, span_at}
use Rattle.congruent_areas.proofs.Lowering.{multiple_below, multiples_up_to, IfNone-anyway}
use Rattle.congruent_areas.proofs.search.lowered_by_all.Goals as goal

pub returns-in_err-high-clause-none : goal.returns-in_err-high-clause-none
returns-in_err-high-clause-none c =
    let groups = c.args.groups.now in
    IfNone-anyway c.from_residual.result ((b : ℕ) → b ≤ c.args.from → IsBase c.args.free.now.blocks groups c.args.align b → ⊥)
    (λ b le free. c.in_err-high.ensures.none b (c.loop-group.invariant.above b le free)
    (All-get_or (λ (g : Group). IsFree c.args.free.now.blocks (span_at b g)) groups c.loop-group.group-index (record { offset = 0; pages = 0 }) c.loop-group-test.true free.free))

pub loop-group-preserved : goal.loop-group-preserved
loop-group-preserved c =
    let blocks = c.args.free.now.blocks in
    let groups = c.args.groups.now in
    let none : Group = record { offset = 0; pages = 0 } in
    let low : c.in_ok-high.high ≤ c.loop-group.base = c.in_ok-high.ensures.lower in
    record {
      lower = omega arith;
      aligned = multiple_below c.in_ok-high.high c.args.align c.requires.align;
      fit = λ e.
          let here : c.in_ok-high.high ≡ c.loop-group.base = omega arith in
          let there : c.loop-group.base ≡ c.args.from = omega arith in
          All-more (λ (g : Group). IsFree blocks (span_at c.args.from g)) groups c.loop-group.group-index none c.loop-group-test.true (c.loop-group.invariant.fit there)
          (subst (λ b. IsFree blocks (span_at b (get_or groups c.loop-group.group-index none))) there (c.in_ok-high.ensures.fits here));
      above = λ b le free.
          multiples_up_to b c.in_ok-high.high c.args.align c.requires.align free.aligned
          (c.in_ok-high.ensures.above b (c.loop-group.invariant.above b le free)
          (All-get_or (λ (g : Group). IsFree blocks (span_at b g)) groups c.loop-group.group-index none c.loop-group-test.true free.free));
    }

pub returns-clause-fit : goal.returns-clause-fit
returns-clause-fit c e = record {
  aligned = c.requires.aligned;
  free = subst (All (λ (g : Group). IsFree c.args.free.now.blocks (span_at c.args.from g))) (take_all c.loop-group.group-index c.args.groups.now (omega arith)) (c.loop-group.invariant.fit e);
}
