use Rattle.std.proofs.Common.{sym, ◌∙◌, arith}
use Rattle.trace_text.proofs.GroupLine.{group_refused, group_stands}
use Rattle.trace_text.proofs.groups.read_group.Goals as goal

pub returns-then-not-may_follow : goal.returns-then-not-may_follow
returns-then-not-may_follow c = λ r held. group_refused c.args.progress.now c.args.progress.now r c.args.text.now c.in-Some.cpus c.in-Some.offset held c.in-Some.ensures.some.0 c.in-Some.ensures.some.1 c.in-Some.ensures.some.2
    (λ after before rules. let other = sym (c.may_follow.ensures.rule r held) ∙ c.if-not-may_follow.true in cc)

pub returns : goal.returns
returns c = λ r held. group_stands c.args.progress.now (record c.args.progress.now { groups = c.push.new.self }) r c.args.text.now (record { cpus = c.in-Some.cpus; offset = c.in-Some.offset }) held c.in-Some.ensures.some.0 c.in-Some.ensures.some.1 c.in-Some.ensures.some.2
    (omega arith) (omega arith) (sym (c.may_follow.ensures.rule r held) ∙ c.if-not-may_follow.false) c.in_ok-push.ensures.items
