use Rattle.std.proofs.Common.{length, slice_get, ◌≡◌, ◌∷◌, ◌++◌, [], inl, inr, sym, ◌∙◌, ap, subst}
use Rattle.vm_model.specs.History.{step}
use Rattle.section_core.specs.declared.region.Stepped.TheVariants.{Moved, Stays, Ended}
use Rattle.kernel_steps.specs.Kernels.{KernelState, IsStanding}
use Rattle.kernel_steps.proofs.SectionsMade.{stands_after, stepped_there, as_many, unchanged_after, others_stay}
use Rattle.kernel_steps.proofs.kernel.Kernel.advance.Goals as goal

pub invariant_of-self-in-Moved : goal.invariant_of-self-in-Moved
invariant_of-self-in-Moved c = let is = c.self.invariant in (
  is.0,
  is.1,
  is.2,
  step is.3 c.args.caller,
  stands_after c.self.inside.regions c.self.inside.locals c.self.inside.moved c.push_reserved.new.self c.args.caller c.in_ok-stepped.stepped
      c.deref_mut.result.now c.section_of.new.regions c.deref_mut-2.result.now c.section_of.new.locals c.deref_mut.ensures.value c.deref_mut-2.ensures.value c.in_ok-stepped.ensures.ok
      is.0 is.1 is.2 is.3 is.4 c.in_ok-stepped.ensures.ended
      (λ e. c.push_reserved.ensures.items ∙ ap (λ xs. xs ++ c.args.caller ∷ []) c.in_ok-reserve.ensures.items) (λ n. absurd (n c.in-Moved.is)),
)

pub returns-in-Moved-clause-ok : goal.returns-in-Moved-clause-ok
returns-in-Moved-clause-ok c = λ setup opening calls w st.
    stands_after c.self.inside.regions c.self.inside.locals c.self.inside.moved c.push_reserved.new.self c.args.caller c.in_ok-stepped.stepped
    c.deref_mut.result.now c.section_of.new.regions c.deref_mut-2.result.now c.section_of.new.locals c.deref_mut.ensures.value c.deref_mut-2.ensures.value c.in_ok-stepped.ensures.ok
    setup opening calls w (subst (IsStanding setup opening calls w) (sym c.self.view_is) st) c.in_ok-stepped.ensures.ended
    (λ e. c.push_reserved.ensures.items ∙ ap (λ xs. xs ++ c.args.caller ∷ []) c.in_ok-reserve.ensures.items) (λ n. absurd (n c.in-Moved.is))

pub returns-in-Moved-clause-stepped : goal.returns-in-Moved-clause-stepped
returns-in-Moved-clause-stepped c = λ setup opening calls w st.
    stepped_there c.self.inside.regions c.self.inside.locals c.self.inside.moved c.push_reserved.new.self c.args.caller c.in_ok-stepped.stepped
    c.deref_mut.result.now c.section_of.new.regions c.deref_mut-2.result.now c.section_of.new.locals c.deref_mut.ensures.value c.deref_mut-2.ensures.value c.in_ok-stepped.ensures.ok
    setup opening calls w (subst (IsStanding setup opening calls w) (sym c.self.view_is) st) c.in_ok-stepped.ensures.ended

pub returns-in-Moved-clause-unchanged : goal.returns-in-Moved-clause-unchanged
returns-in-Moved-clause-unchanged c = λ n. absurd (n c.in-Moved.is)

pub returns-in-Moved-clause-callers : goal.returns-in-Moved-clause-callers
returns-in-Moved-clause-callers c =
    as_many c.self.inside.regions c.self.inside.locals c.self.inside.moved c.push_reserved.new.self c.args.caller c.in_ok-stepped.stepped
    c.deref_mut.result.now c.section_of.new.regions c.deref_mut-2.result.now c.section_of.new.locals c.deref_mut.ensures.value c.deref_mut-2.ensures.value c.in_ok-stepped.ensures.ok
    ∙ ap (λ (k : KernelState). length k.locals) c.self.view_is

pub returns-in-Moved-clause-others : goal.returns-in-Moved-clause-others
returns-in-Moved-clause-others c = λ other apart.
    others_stay c.self.inside.regions c.self.inside.locals c.self.inside.moved c.push_reserved.new.self c.args.caller c.in_ok-stepped.stepped
    c.deref_mut.result.now c.section_of.new.regions c.deref_mut-2.result.now c.section_of.new.locals c.deref_mut.ensures.value c.deref_mut-2.ensures.value c.in_ok-stepped.ensures.ok other apart
    ∙ ap (λ (k : KernelState). slice_get k.locals other) c.self.view_is

pub returns-in-Stays : goal.returns-in-Stays
returns-in-Stays c = record {
  ok = λ setup opening calls w st.
      stands_after c.self.inside.regions c.self.inside.locals c.self.inside.moved c.reserve.new.self c.args.caller c.in_ok-stepped.stepped
      c.deref_mut.result.now c.section_of.new.regions c.deref_mut-2.result.now c.section_of.new.locals c.deref_mut.ensures.value c.deref_mut-2.ensures.value c.in_ok-stepped.ensures.ok
      setup opening calls w (subst (IsStanding setup opening calls w) (sym c.self.view_is) st) c.in_ok-stepped.ensures.ended
      (λ e. absurd (elim c.in-Stays.is as (λ h. ⊥) [ inl h ↦ (let no : Moved ≡ Stays = sym e ∙ h in cc) | inr h ↦ (let no : Moved ≡ Ended = sym e ∙ h in cc) ])) (λ n. c.in_ok-reserve.ensures.items);
  stepped = λ setup opening calls w st.
      stepped_there c.self.inside.regions c.self.inside.locals c.self.inside.moved c.reserve.new.self c.args.caller c.in_ok-stepped.stepped
      c.deref_mut.result.now c.section_of.new.regions c.deref_mut-2.result.now c.section_of.new.locals c.deref_mut.ensures.value c.deref_mut-2.ensures.value c.in_ok-stepped.ensures.ok
      setup opening calls w (subst (IsStanding setup opening calls w) (sym c.self.view_is) st) c.in_ok-stepped.ensures.ended;
  unchanged = λ n.
      unchanged_after c.self.inside.regions c.self.inside.locals c.self.inside.moved c.reserve.new.self c.args.caller c.in_ok-stepped.stepped
      c.deref_mut.result.now c.section_of.new.regions c.deref_mut-2.result.now c.section_of.new.locals c.deref_mut.ensures.value c.deref_mut-2.ensures.value c.in_ok-stepped.ensures.ok
      c.in_ok-stepped.ensures.ended n c.in_ok-reserve.ensures.items
      ∙ c.self.view_is;
  callers =
      as_many c.self.inside.regions c.self.inside.locals c.self.inside.moved c.reserve.new.self c.args.caller c.in_ok-stepped.stepped
      c.deref_mut.result.now c.section_of.new.regions c.deref_mut-2.result.now c.section_of.new.locals c.deref_mut.ensures.value c.deref_mut-2.ensures.value c.in_ok-stepped.ensures.ok
      ∙ ap (λ (k : KernelState). length k.locals) c.self.view_is;
  others = λ other apart.
      others_stay c.self.inside.regions c.self.inside.locals c.self.inside.moved c.reserve.new.self c.args.caller c.in_ok-stepped.stepped
      c.deref_mut.result.now c.section_of.new.regions c.deref_mut-2.result.now c.section_of.new.locals c.deref_mut.ensures.value c.deref_mut-2.ensures.value c.in_ok-stepped.ensures.ok other apart
      ∙ ap (λ (k : KernelState). slice_get k.locals other) c.self.view_is;
  err = tt;
}
