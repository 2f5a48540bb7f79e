use Rattle.std.proofs.Common.{rules, ◌≡◌, ◌≤◌, ℕ, length, [], ◌∷◌, refl, sym, ap, ◌∙◌, subst, arith, length-append}
use Rattle.section_table.specs.PassViews.{merged, put_at}
use Rattle.section_table.proofs.Placed.{merged_nil, merged_more, merged_long}
use Rattle.section_table.proofs.callers.merge.Goals as goal

pub loop-other-init : goal.loop-other-init
loop-other-init g c = (search rules, search rules, refl, sym (merged_nil c.args.callers.now.items), refl)

pub put_in-requires-clause-place : goal.put_in-requires-clause-place
put_in-requires-clause-place g c = let inv = c.loop-other.invariant in
    subst (λ l. c.loop-other.place ≤ length l) (sym inv.3) (subst (λ (n : ℕ). n ≤ length (merged c.args.callers.now.items c.loop-other.yielded)) (sym inv.2) (merged_long c.args.callers.now.items c.loop-other.yielded))

pub loop-other-preserved : goal.loop-other-preserved
loop-other-preserved g c = let inv = c.loop-other.invariant in (
  search rules,
  search rules,
  (let e = inv.2 in omega (arith, length-append c.loop-other.yielded (c.in-Some.other ∷ []))),
  c.put_in.ensures.put ∙ (ap (λ l. put_at l c.loop-other.place c.in-Some.other) inv.3
      ∙ (ap (λ (n : ℕ). put_at (merged c.args.callers.now.items c.loop-other.yielded) n c.in-Some.other) inv.2 ∙ sym (merged_more c.args.callers.now.items c.loop-other.yielded c.in-Some.other))),
  c.put_in.ensures.capacity ∙ inv.4,
)
