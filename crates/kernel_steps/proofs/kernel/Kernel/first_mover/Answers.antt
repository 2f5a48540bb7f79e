use Rattle.std.proofs.Common.{add-one, ◌≡◌, ◌≤◌, length, subst, sym, ◌∙◌, ap, arith}
use Rattle.kernel_steps.specs.Kernels.{KernelState}
use Rattle.kernel_steps.proofs.SectionsMade.{nothing_there}
use Rattle.kernel_steps.proofs.WorldCallers.{few_callers, mover_from, mover_here, mover_later, mover_none, mover_past}
use Rattle.kernel_steps.proofs.kernel.Kernel.first_mover.Goals as goal

pub overflow_cast-caller-end : goal.overflow_cast-caller-end
overflow_cast-caller-end c =
    let few = few_callers (record { regions = c.self.inside.regions.items; locals = c.self.inside.locals.items; moved = c.self.inside.moved.items }) c.self.invariant in
    let wide = c.self.inside.locals.ok.0 in let same = c.len-caller-end.ensures in omega arith

pub loop-caller-init : goal.loop-caller-init
loop-caller-init c = λ setup opening calls w st.
    mover_past w c.args.ended (subst (λ n. c.args.ended ≤ n) (ap length st.locals) c.requires.within) (λ k low.
    let was = c.requires.ended k low in
    sym (nothing_there setup opening calls w c.args.self.now k was.0 st was.1 was.2))

pub returns-then-can_move-clause-first : goal.returns-then-can_move-clause-first
returns-then-can_move-clause-first c = λ setup opening calls w st.
    let many : length w.locals ≡ c.len-caller-end.result = ap length (sym st.locals) ∙ ap (λ (x : KernelState). length x.locals) (sym c.self.view_is) ∙ sym c.self.inside.locals.ok.0 ∙ sym c.len-caller-end.ensures in
    let inside = c.loop-caller-test.true in
    sym (mover_here w c.loop-caller.caller (omega arith) (sym (c.can_move.ensures setup opening calls w st) ∙ c.if-can_move.true)) ∙ c.loop-caller.invariant setup opening calls w st

pub loop-caller-preserved : goal.loop-caller-preserved
loop-caller-preserved c = λ setup opening calls w st.
    let many : length w.locals ≡ c.len-caller-end.result = ap length (sym st.locals) ∙ ap (λ (x : KernelState). length x.locals) (sym c.self.view_is) ∙ sym c.self.inside.locals.ok.0 ∙ sym c.len-caller-end.ensures in
    let inside = c.loop-caller-test.true in
    ap (mover_from w) (add-one c.loop-caller.caller) ∙ sym (mover_later w c.loop-caller.caller (omega arith) (sym (c.can_move.ensures setup opening calls w st) ∙ c.if-can_move.false)) ∙ c.loop-caller.invariant setup opening calls w st

pub returns-clause-first : goal.returns-clause-first
returns-clause-first c = λ setup opening calls w st.
    let many : length w.locals ≡ c.len-caller-end.result = ap length (sym st.locals) ∙ ap (λ (x : KernelState). length x.locals) (sym c.self.view_is) ∙ sym c.self.inside.locals.ok.0 ∙ sym c.len-caller-end.ensures in
    let outside = c.loop-caller-test.false in
    sym (mover_none w c.loop-caller.caller (omega arith)) ∙ c.loop-caller.invariant setup opening calls w st
