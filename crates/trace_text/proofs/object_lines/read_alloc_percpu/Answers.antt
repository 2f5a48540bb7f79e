use Rattle.std.proofs.Common.{sym, ◌∙◌, codes, refl, true}
use Rattle.vm_model.specs.declared.calls.Call.TheVariants as call
use Rattle.trace_text.specs.SpelledLines.{AllocPercpu}
use Rattle.trace_text.proofs.NamedLines.{alloc_percpu_lines, is_named_text, no_named_text, named_refused, named_stands}
use Rattle.trace_text.proofs.object_lines.read_alloc_percpu.Goals as goal

pub returns-in_default : goal.returns-in_default
returns-in_default c = λ r held. no_named_text c.args.progress.now r (codes "alloc_percpu") c.args.text.now AllocPercpu call.AllocPercpu (λ bytes. true) (alloc_percpu_lines r) c.in_default.ensures.none

pub returns-then-not-has_place : goal.returns-then-not-has_place
returns-then-not-has_place c = λ r held. named_refused c.args.progress.now r (codes "alloc_percpu") c.args.text.now AllocPercpu call.AllocPercpu (λ bytes. true) c.in-Some.name.now c.in-Some.bytes c.in-Some.align (alloc_percpu_lines r) (is_named_text _ _ _ _ c.in-Some.ensures.some)
    (λ place new rules. let none = sym (c.has_place.ensures.place r held) ∙ c.if-not-has_place.true in cc)

pub returns-then-not-branch : goal.returns-then-not-branch
returns-then-not-branch c = λ r held. named_refused c.args.progress.now r (codes "alloc_percpu") c.args.text.now AllocPercpu call.AllocPercpu (λ bytes. true) c.in-Some.name.now c.in-Some.bytes c.in-Some.align (alloc_percpu_lines r) (is_named_text _ _ _ _ c.in-Some.ensures.some)
    (λ place new rules. let none = sym (c.in_ok-add_named_call.ensures.new r held) ∙ c.if-not-branch.true in cc)

pub returns : goal.returns
returns c = λ r held.
    let place = sym (c.has_place.ensures.place r held) ∙ c.if-not-has_place.false in
    let new = sym (c.in_ok-add_named_call.ensures.new r held) ∙ c.if-not-branch.false in
    named_stands _ r (codes "alloc_percpu") c.args.text.now AllocPercpu call.AllocPercpu (λ bytes. true) c.in-Some.name.now c.in-Some.bytes c.in-Some.align (alloc_percpu_lines r) (is_named_text _ _ _ _ c.in-Some.ensures.some) place new refl
    (c.in_ok-add_named_call.ensures.added r held new)
