use Rattle.std.proofs.Common.{◌≡◌, ◌<◌, ℕ, List, length, Some, sym, ◌∙◌, subst, slice_get, slice_index_or, refl}
use Rattle.std.proofs.lemmas.Option.{slice_get_read}
use Rattle.kernel_steps.specs.Kernels.{KernelState, IsStanding}
use Rattle.kernel_steps.proofs.SectionsMade.{still_stays, still_ended}
use Rattle.kernel_steps.proofs.kernel.Kernel.stands_still.Goals as goal

-- an element that was read is there
there : {X : Type 0} (xs : List X) (i : ℕ) (x : X) → x ≡ slice_index_or xs i x → i < length xs → slice_get xs i ≡ Some x
there xs i x e low = slice_get_read xs (length xs) i x refl low e

pub returns-in-Some-clause-stepped : goal.returns-in-Some-clause-stepped
returns-in-Some-clause-stepped c = λ setup opening calls w st still.
    let low : c.args.caller < length c.self.inside.locals.items = subst (λ (k : KernelState). c.args.caller < length k.locals) (sym c.self.view_is) c.requires in
    still_stays setup opening calls w (record { regions = c.self.inside.regions.items; locals = c.self.inside.locals.items; moved = c.self.inside.moved.items }) c.args.caller c.in-Some.field-0 c.index.result.now
    (subst (IsStanding setup opening calls w) (sym c.self.view_is) st) (there c.self.inside.locals.items c.args.caller c.index.result.now c.index.ensures low) (sym c.wants.ensures ∙ c.in-Some.is) still

pub returns-in-None-clause-stepped : goal.returns-in-None-clause-stepped
returns-in-None-clause-stepped c = λ setup opening calls w st still.
    let low : c.args.caller < length c.self.inside.locals.items = subst (λ (k : KernelState). c.args.caller < length k.locals) (sym c.self.view_is) c.requires in
    still_ended setup opening calls w (record { regions = c.self.inside.regions.items; locals = c.self.inside.locals.items; moved = c.self.inside.moved.items }) c.args.caller c.index.result.now
    (subst (IsStanding setup opening calls w) (sym c.self.view_is) st) (there c.self.inside.locals.items c.args.caller c.index.result.now c.index.ensures low) (sym c.wants.ensures ∙ c.in-None.is)
