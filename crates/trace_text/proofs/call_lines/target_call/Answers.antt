use Rattle.std.proofs.Common.{◌≡◌, ◌∙◌, false, true, ap, sym, rules, slice_get}
use Rattle.trace_text.specs.Names.{place_of}
use Rattle.trace_text.specs.HeldLines.{call_at, target_call}
use Rattle.trace_text.proofs.TargetCalls.{own_target, opening_target}
use Rattle.trace_text.proofs.call_lines.target_call.Goals as goal

pub returns-then-not-opening : goal.returns-then-not-opening
returns-then-not-opening c = λ r held.
    let p = c.args.progress.now in
    let own : c.args.opening ≡ false = search rules in
    c.named_call.ensures ∙ ap (λ calls. call_at calls (place_of p.names c.args.name.now)) c.as_slice.ensures.value ∙ own_target p r c.args.name.now held
    ∙ ap (λ b. target_call r (record { opening = b; name = c.args.name.now })) (sym own)

pub returns : goal.returns
returns c = λ r held.
    let p = c.args.progress.now in
    let opening : c.args.opening ≡ true = search rules in
    c.named_call-2.ensures ∙ ap (λ calls. call_at calls (place_of p.opening_names c.args.name.now)) c.as_slice-2.ensures
    ∙ opening_target p r c.args.name.now c.in-Some.section.now held (ap (λ sections. slice_get sections 0) (sym c.deref.ensures.value) ∙ sym c.in-Some.ensures.value)
    ∙ ap (λ b. target_call r (record { opening = b; name = c.args.name.now })) (sym opening)
