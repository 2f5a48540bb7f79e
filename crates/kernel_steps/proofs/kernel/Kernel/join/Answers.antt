use Rattle.std.proofs.Common.{◌++◌, ◌∙◌, ap}
use Rattle.kernel_steps.specs.Kernels.{KernelState, start_of, opening_of, callers_of}
use Rattle.kernel_steps.proofs.KernelStarts.{stands_joined}
use Rattle.kernel_steps.proofs.kernel.Kernel.join.Goals as goal

pub invariant_of-self-2 : goal.invariant_of-self-2
invariant_of-self-2 c =
    let can = c.requires.2 in (
      c.requires.0,
      opening_of c.requires.1,
      callers_of c.requires.1,
      start_of c.requires.0 c.requires.1,
      stands_joined c.requires.0 c.requires.1 c.args.self.now (record { regions = c.self.inside.regions.items; locals = c.append.new.self.items; moved = c.self.inside.moved.items }) c.args.callers.items can
          (ap (λ (k : KernelState). k.regions) c.self.view_is) (c.in_ok-append.ensures.items ∙ ap (λ (k : KernelState). k.locals ++ c.args.callers.items) c.self.view_is) (ap (λ (k : KernelState). k.moved) c.self.view_is),
    )

pub returns : goal.returns
returns c = λ setup sections can.
    stands_joined setup sections c.args.self.now (record { regions = c.self.inside.regions.items; locals = c.append.new.self.items; moved = c.self.inside.moved.items }) c.args.callers.items can
    (ap (λ (k : KernelState). k.regions) c.self.view_is) (c.in_ok-append.ensures.items ∙ ap (λ (k : KernelState). k.locals ++ c.args.callers.items) c.self.view_is) (ap (λ (k : KernelState). k.moved) c.self.view_is)
