use Rattle.std.proofs.Common.{◌≡◌, ℕ, ◌+◌, ◌<◌, ◌≤◌, inl, inr, true, None, get_or, ◌∙◌, rules, arith}
use Rattle.std.proofs.lemmas.Bool.{cases_lt, both_ways}
use Rattle.vm_model.specs.Space.{end_of, covers}
use Rattle.congruent_areas.proofs.Lowering.{first_page, multiple_below, multiples_up_to, IfNone-anyway}
use Rattle.congruent_areas.specs.GroupsAtBase.{HasBase}
use Rattle.congruent_areas.proofs.Bases.{no_base, the_base}
use Rattle.congruent_areas.proofs.search.highest.Goals as goal

pub returns-in_err-top-clause-base : goal.returns-in_err-top-clause-base
returns-in_err-top-clause-base c m taken has is =
    let blocks = c.args.free.now.blocks in
    let groups = c.args.groups.now in
    let none : c.from_residual.result ≡ None = search rules in
    none ∙ no_base m groups c.args.align blocks taken has is
    (λ b free.
    let at = first_page blocks groups c.args.align b c.requires.groups.some c.requires.groups.pages free in
    let in' = c.in_err-top.ensures.space _ at in
    both_ways (covers blocks (b + (get_or groups 0 (record { offset = 0; pages = 0 })).offset)) (c.in_err-top.ensures.none _ (omega arith)) at)

pub loop-lower-init : goal.loop-lower-init
loop-lower-init c =
    let blocks = c.args.free.now.blocks in
    let groups = c.args.groups.now in
    let top = c.in_ok-top.top in
    let found = c.in_ok-top.ensures.found in
    record {
      within = let end : end_of top ≤ 1048576 = found.end in omega arith;
      aligned = multiple_below (end_of top) c.args.align c.requires.align;
      greatest = λ b free.
          let p : ℕ = b + (get_or groups 0 (record { offset = 0; pages = 0 })).offset in
          let at : covers blocks p ≡ true = first_page blocks groups c.args.align b c.requires.groups.some c.requires.groups.pages free in
          let in' : p < 1048576 = c.in_ok-top.ensures.space p at in
          multiples_up_to b (end_of top) c.args.align c.requires.align free.aligned
          (elim (cases_lt p (end_of top)) [
            | inl under ↦ omega arith
            | inr over ↦ absurd (both_ways (covers blocks p) (found.behind p over (omega arith)) at)
          ]);
    }

pub returns-in_err-lower-clause-base : goal.returns-in_err-lower-clause-base
returns-in_err-lower-clause-base c m taken has is =
    let none : c.from_residual-in_err-lower.result ≡ None = search rules in
    none ∙ no_base m c.args.groups.now c.args.align c.args.free.now.blocks taken has is (λ b free. c.in_err-lower.ensures.none b (c.loop-lower.invariant.greatest b free) free)

pub returns-then-lower-base-clause-base : goal.returns-then-lower-base-clause-base
returns-then-lower-base-clause-base c m taken has is =
    the_base m c.args.groups.now c.args.align c.args.free.now.blocks taken has is c.loop-lower.base c.requires.groups.some c.requires.groups.pages
    (c.in_ok-lower.ensures.fit c.if-lower-base.true) c.loop-lower.invariant.greatest

pub returns-in_err-top-clause-none : goal.returns-in_err-top-clause-none
returns-in_err-top-clause-none c =
    IfNone-anyway c.from_residual.result (HasBase c.args.free.now.blocks c.args.groups.now c.args.align → ⊥)
    (λ base.
    let blocks = c.args.free.now.blocks in
    let groups = c.args.groups.now in
    let at = first_page blocks groups c.args.align base.0 c.requires.groups.some c.requires.groups.pages base.1 in
    let in' = c.in_err-top.ensures.space _ at in
    both_ways (covers blocks (base.0 + (get_or groups 0 (record { offset = 0; pages = 0 })).offset)) (c.in_err-top.ensures.none _ (omega arith)) at)

pub returns-in_err-lower-clause-none : goal.returns-in_err-lower-clause-none
returns-in_err-lower-clause-none c =
    IfNone-anyway c.from_residual-in_err-lower.result (HasBase c.args.free.now.blocks c.args.groups.now c.args.align → ⊥)
    (λ base. c.in_err-lower.ensures.none base.0 (c.loop-lower.invariant.greatest base.0 base.1) base.1)

pub returns-then-lower-base-clause-greatest : goal.returns-then-lower-base-clause-greatest
returns-then-lower-base-clause-greatest c = record { is_base = c.in_ok-lower.ensures.fit c.if-lower-base.true; greatest = c.loop-lower.invariant.greatest }
