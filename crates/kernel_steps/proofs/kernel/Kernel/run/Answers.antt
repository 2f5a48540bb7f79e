use Rattle.std.proofs.Common.{take, ◌∙◌, subst}
use Rattle.std.proofs.lemmas.List.{take_all}
use Rattle.vm_model.specs.History.{pick_all}
use Rattle.kernel_steps.specs.Kernels.{IsStanding}
use Rattle.kernel_steps.proofs.PickSteps.{pick_all-next}
use Rattle.kernel_steps.proofs.kernel.Kernel.run.Goals as goal

pub loop-pick-preserved : goal.loop-pick-preserved
loop-pick-preserved c = record {
  callers = c.step.ensures.callers ∙ c.loop-pick.invariant.callers;
  stands = λ setup opening calls w st.
      subst (λ v. IsStanding setup opening calls v c.step.new.self) (pick_all-next w c.args.picks.now c.loop-pick.pick-index 0 c.loop-pick-test.true)
      (c.in_ok-step.ensures.ok setup opening calls (pick_all w (take c.loop-pick.pick-index c.args.picks.now)) (c.loop-pick.invariant.stands setup opening calls w st));
}

pub returns-clause-ok : goal.returns-clause-ok
returns-clause-ok c = λ setup opening calls w st.
    subst (λ picks. IsStanding setup opening calls (pick_all w picks) c.loop-pick.self) (take_all c.loop-pick.pick-index c.args.picks.now c.loop-pick-test.false) (c.loop-pick.invariant.stands setup opening calls w st)
