use Rattle.std.proofs.Common.{◌<◌, ◌≤◌, IfSome, sym, ◌∙◌, subst, arith}
use Rattle.vm_model.specs.declared.areas.Span.{Span}
use Rattle.augmented_tree.proofs.JoinedSpans.{joins_after, stays_after}
use Rattle.augmented_tree.proofs.blocks.joint_after.Goals as goal

pub returns-then-block-end-clause-joins : goal.returns-then-block-end-clause-joins
returns-then-block-end-clause-joins c blocks separate bound at =
    joins_after blocks c.args.index c.in-Some.block c.args.end separate (sym at ∙ c.in-Some.is) c.if-block-end.true

pub returns-else-block-end-clause-joins : goal.returns-else-block-end-clause-joins
returns-else-block-end-clause-joins c blocks separate bound at =
    let begins : c.args.end ≤ c.in-Some.block.start = subst (λ o. IfSome o (λ (b : Span). c.args.end ≤ b.start)) c.in-Some.is c.requires.begins in
    stays_after blocks c.args.index c.args.end separate bound (subst (λ o. IfSome o (λ (b : Span). c.args.end < b.start)) (sym c.in-Some.is ∙ at) (omega (arith, c.if-block-end.false)))

pub returns-in_default-clause-joins : goal.returns-in_default-clause-joins
returns-in_default-clause-joins c blocks separate bound at =
    stays_after blocks c.args.index c.args.end separate bound (subst (λ o. IfSome o (λ (b : Span). c.args.end < b.start)) (sym c.in_default.is ∙ at) tt)
