use Rattle.std.proofs.Common.{◌-◌, Some, length, sym, subst, ◌∙◌, ap, arith}
use Rattle.vm_model.specs.declared.calls.Call.{Call}
use Rattle.vm_model.specs.declared.calls.Call.TheVariants.{FreePercpu}
use Rattle.vm_model.specs.declared.calls.Reply.{Reply}
use Rattle.callers.specs.CallerParts.{IsSoundCall, after_reply}
use Rattle.callers.proofs.Lookups.{found_at}
use Rattle.callers.proofs.FreedTold.{freed_in_place}
use Rattle.callers.proofs.noting.note_free.Goals as goal

pub overflow_sub-outcomes : goal.overflow_sub-outcomes
overflow_sub-outcomes c =
    let at = found_at c.args.calls.now (length c.args.outcomes.now) c.in-Some.call.now c.in-Some.ensures.lookup.0 c.in-Some.ensures.lookup.1 in
    (subst (IsSoundCall (length c.args.outcomes.now)) c.in-FreePercpu-Done.is-0 (c.requires.sound (length c.args.outcomes.now) c.in-Some.call.now at)).0

pub bounds-outcomes-target : goal.bounds-outcomes-target
bounds-outcomes-target c =
    let at = found_at c.args.calls.now (length c.args.outcomes.now) c.in-Some.call.now c.in-Some.ensures.lookup.0 c.in-Some.ensures.lookup.1 in
    let sound = subst (IsSoundCall (length c.args.outcomes.now)) c.in-FreePercpu-Done.is-0 (c.requires.sound (length c.args.outcomes.now) c.in-Some.call.now at) in
    let low = sound.0 in
    let before = sound.1 in
    omega arith

pub returns : goal.returns
returns c =
    let at = found_at c.args.calls.now (length c.args.outcomes.now) c.in-Some.call.now c.in-Some.ensures.lookup.0 c.in-Some.ensures.lookup.1 in
    record {
      freed = freed_in_place (c.in-FreePercpu-Done.target.call - 1) c.args.outcomes.now
          ∙ sym (ap (λ o. after_reply o c.args.reply c.args.outcomes.now) (at ∙ ap (λ (call : Call). Some call) c.in-FreePercpu-Done.is-0) ∙ ap (λ (reply : Reply). after_reply (Some (FreePercpu c.in-FreePercpu-Done.target)) reply c.args.outcomes.now) c.in-FreePercpu-Done.is-1);
    }
