use Rattle.std.proofs.Common.{IfSome, ◌≡◌, ◌≤◌, ◌<◌, ◌-◌, ◌+◌, suc, length, Some, None, refl, sym, ◌∙◌, ap, subst, arith}
use Rattle.vm_model.specs.History.{step, finish, first_mover, most_events}
use Rattle.kernel_steps.specs.Kernels.{IsStanding}
use Rattle.map_laws.proofs.EndProofs.{finish_zero, finish_some, finish_stays}
use Rattle.kernel_steps.proofs.WorldCallers.{over_there}
use Rattle.kernel_steps.proofs.PickSteps.{finish_next}
use Rattle.kernel_steps.proofs.kernel.Kernel.finish.Goals as goal

pub advance-requires : goal.advance-requires
advance-requires c = subst (λ o. IfSome o (λ caller. caller < length c.loop.self.locals)) c.in-Some.is c.first_mover.ensures.within

pub loop-init : goal.loop-init
loop-init c = record {
  within = omega arith;
  ended = λ k low. absurd (omega arith);
  callers = refl;
  stands = λ setup opening calls w st. (w, st, refl, sym (finish_zero w));
}

pub loop-preserved : goal.loop-preserved
loop-preserved c = record {
  within = subst (λ n. c.skip_ended-ended.result ≤ n) (sym c.advance.ensures.callers) c.skip_ended-ended.ensures.within;
  ended = λ k low.
      let behind = subst (λ o. IfSome o (λ caller. c.skip_ended-ended.result ≤ caller)) c.in-Some.is c.first_mover.ensures.behind in
      let was = c.skip_ended-ended.ensures.ended k low in
      (was.0, c.advance.ensures.others k (λ e. absurd (omega arith)) ∙ was.1, was.2);
  callers = c.advance.ensures.callers ∙ c.loop.invariant.callers;
  stands = λ setup opening calls w st.
      let is = c.loop.invariant.stands setup opening calls w st in
      let first : first_mover is.0 ≡ Some c.in-Some.caller = sym (c.first_mover.ensures.first setup opening calls is.0 is.1) ∙ c.in-Some.is in
      let left : 100000000 - c.loop.counter ≡ suc (100000000 - (c.loop.counter + 1)) = (let low = c.loop-test.true in omega arith) in (
        step is.0 c.in-Some.caller,
        c.in_ok-advance.ensures.ok setup opening calls is.0 is.1,
        sym (finish_some (100000000 - (c.loop.counter + 1)) is.0 c.in-Some.caller first) ∙ ap (λ n. finish n is.0) (sym left) ∙ is.2,
        ap (λ v. step v c.in-Some.caller) is.3 ∙ sym (finish_next c.loop.counter w c.in-Some.caller (ap first_mover (sym is.3) ∙ first)),
      );
}

pub returns-after-loop-clause-ok : goal.returns-after-loop-clause-ok
returns-after-loop-clause-ok c = λ setup opening calls w st.
    let is = c.loop.invariant.stands setup opening calls w st in
    let none : 100000000 - c.loop.counter ≡ 0 = (let high = c.loop-test.false in omega arith) in
    subst (λ v. IsStanding setup opening calls v c.loop.self) (sym (finish_zero is.0) ∙ ap (λ n. finish n is.0) (sym none) ∙ is.2) is.1

pub returns-in_default-clause-ok : goal.returns-in_default-clause-ok
returns-in_default-clause-ok c = λ setup opening calls w st.
    let is = c.loop.invariant.stands setup opening calls w st in
    let first : first_mover is.0 ≡ None = sym (c.first_mover.ensures.first setup opening calls is.0 is.1) ∙ c.in_default.is in
    subst (λ v. IsStanding setup opening calls v c.loop.self) (sym (finish_stays (100000000 - c.loop.counter) is.0 first) ∙ is.2) is.1

pub returns-after-loop-clause-over : goal.returns-after-loop-clause-over
returns-after-loop-clause-over c = λ setup opening calls w st.
    let is = c.loop.invariant.stands setup opening calls w st in
    let none : 100000000 - c.loop.counter ≡ 0 = (let high = c.loop-test.false in omega arith) in
    let same : is.0 ≡ finish most_events w = sym (finish_zero is.0) ∙ ap (λ n. finish n is.0) (sym none) ∙ is.2 in
    over_there setup opening calls w c.args.self.now c.loop.self is.0 st is.1 same

pub returns-in_default-clause-over : goal.returns-in_default-clause-over
returns-in_default-clause-over c = λ setup opening calls w st.
    let is = c.loop.invariant.stands setup opening calls w st in
    let first : first_mover is.0 ≡ None = sym (c.first_mover.ensures.first setup opening calls is.0 is.1) ∙ c.in_default.is in
    let same : is.0 ≡ finish most_events w = sym (finish_stays (100000000 - c.loop.counter) is.0 first) ∙ is.2 in
    over_there setup opening calls w c.args.self.now c.loop.self is.0 st is.1 same
