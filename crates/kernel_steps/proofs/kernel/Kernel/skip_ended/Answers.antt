use Rattle.std.proofs.Common.{◌≡◌, ◌<◌, ◌+◌, ℕ, List, length, Option, Some, None, false, is_some, slice_get, inl, inr, refl, ap, sym, ◌∙◌, subst, arith}
use Rattle.std.proofs.lemmas.Bool.{cases_lt}
use Rattle.std.proofs.lemmas.Option.{slice_get_read}
use Rattle.vm_model.specs.History.{Local}
use Rattle.vm_model.specs.Parts.{wants}
use Rattle.kernel_steps.specs.Kernels.{KernelState, HaveEnded}
use Rattle.kernel_steps.proofs.WorldCallers.{few_callers}
use Rattle.kernel_steps.proofs.kernel.Kernel.skip_ended.Goals as goal

none_there : (o : Option ℕ) → is_some o ≡ false → o ≡ None
none_there None is = refl
none_there (Some n) is = cc

-- one more has ended
one_more : (locals : List Local) (k : ℕ) (l : Local) → HaveEnded k locals → slice_get locals k ≡ Some l → wants l ≡ None → HaveEnded (k + 1) locals
one_more locals k l ended at none other low = elim (cases_lt other k) [
  | inl before ↦ ended other before
  | inr here ↦ let same : k ≡ other = omega arith in (l, subst (λ i. slice_get locals i ≡ Some l) same at, none)
]

pub overflow_add-caller : goal.overflow_add-caller
overflow_add-caller c =
    let few = few_callers (record { regions = c.self.inside.regions.items; locals = c.self.inside.locals.items; moved = c.self.inside.moved.items }) c.self.invariant in
    let wide = c.self.inside.locals.ok.0 in
    let same = c.len.ensures in
    let low = c.loop-caller-test.true in
    record { fits = omega arith }

pub loop-caller-preserved : goal.loop-caller-preserved
loop-caller-preserved c =
    let wide = c.self.inside.locals.ok.0 in
    let same = c.len.ensures in
    let test = c.loop-caller-test.true in
    let low : c.loop-caller.caller < length c.self.inside.locals.items = omega arith in
    let here : slice_get c.self.inside.locals.items c.loop-caller.caller ≡ Some c.index.result.now = slice_get_read c.self.inside.locals.items (length c.self.inside.locals.items) c.loop-caller.caller c.index.result.now refl low c.index.ensures in
    let at = subst (λ (k : KernelState). slice_get k.locals c.loop-caller.caller ≡ Some c.index.result.now) c.self.view_is here in
    let many = ap (λ (k : KernelState). length k.locals) c.self.view_is in
    record {
      within = omega arith;
      ended = one_more c.args.self.now.locals c.loop-caller.caller c.index.result.now c.loop-caller.invariant.ended at (sym c.wants.ensures ∙ none_there c.wants.result (sym c.is_some.ensures ∙ c.if-is_some.false));
    }
