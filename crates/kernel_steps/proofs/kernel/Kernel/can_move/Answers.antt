use Rattle.std.proofs.Common.{◌≡◌, ◌<◌, ℕ, List, length, Some, sym, ◌∙◌, subst, slice_get, arith}
use Rattle.kernel_steps.specs.Kernels.{KernelState, IsStanding}
use Rattle.std.proofs.Common.{slice_index_or, refl}
use Rattle.std.proofs.lemmas.Option.{slice_get_read}
use Rattle.kernel_steps.proofs.SectionsMade.{moves_there, nothing_there, within_there}
use Rattle.kernel_steps.proofs.kernel.Kernel.can_move.Goals as goal

-- an element that was read is there
there : {X : Type 0} (xs : List X) (i n : ℕ) (x : X) → x ≡ slice_index_or xs i x → i < n → n ≡ length xs → slice_get xs i ≡ Some x
there xs i n x e low wide = slice_get_read xs n i x wide low e

pub index-requires : goal.index-requires
index-requires c =
    let low : c.args.caller < length c.self.inside.locals.items = subst (λ (k : KernelState). c.args.caller < length k.locals) (sym c.self.view_is) c.requires in
    let here = there c.self.inside.locals.items c.args.caller (length c.self.inside.locals.items) c.index-local.result.now c.index-local.ensures low refl in
    let within = within_there (record { regions = c.self.inside.regions.items; locals = c.self.inside.locals.items; moved = c.self.inside.moved.items }) c.args.caller c.in-Some.number c.index-local.result.now
    c.self.invariant here (sym c.wants.ensures ∙ c.in-Some.is) in
    let wide = c.self.inside.regions.ok.0 in
    omega arith

pub returns-in-Some : goal.returns-in-Some
returns-in-Some c = λ setup opening calls w st.
    let low : c.args.caller < length c.self.inside.locals.items = subst (λ (k : KernelState). c.args.caller < length k.locals) (sym c.self.view_is) c.requires in
    let here = there c.self.inside.locals.items c.args.caller (length c.self.inside.locals.items) c.index-local.result.now c.index-local.ensures low refl in
    let state : KernelState = record { regions = c.self.inside.regions.items; locals = c.self.inside.locals.items; moved = c.self.inside.moved.items } in
    let within = within_there state c.args.caller c.in-Some.number c.index-local.result.now c.self.invariant here (sym c.wants.ensures ∙ c.in-Some.is) in
    c.moves.ensures
    ∙ moves_there setup opening calls w state c.args.caller c.in-Some.number c.index-local.result.now c.index.result.now (subst (IsStanding setup opening calls w) (sym c.self.view_is) st)
    here (sym c.wants.ensures ∙ c.in-Some.is) (there c.self.inside.regions.items c.in-Some.number (length c.self.inside.regions.items) c.index.result.now c.index.ensures within refl)

pub returns-in-None : goal.returns-in-None
returns-in-None c = λ setup opening calls w st.
    let low : c.args.caller < length c.self.inside.locals.items = subst (λ (k : KernelState). c.args.caller < length k.locals) (sym c.self.view_is) c.requires in
    let here = there c.self.inside.locals.items c.args.caller (length c.self.inside.locals.items) c.index-local.result.now c.index-local.ensures low refl in
    nothing_there setup opening calls w (record { regions = c.self.inside.regions.items; locals = c.self.inside.locals.items; moved = c.self.inside.moved.items }) c.args.caller c.index-local.result.now
    (subst (IsStanding setup opening calls w) (sym c.self.view_is) st) here (sym c.wants.ensures ∙ c.in-None.is)
