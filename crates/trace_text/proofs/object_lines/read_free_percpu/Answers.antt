use Rattle.std.proofs.Common.{◌≡◌, sym, ◌∙◌, ap, refl, true, false, not}
use Rattle.trace_text.specs.SpelledLines.{TargetName}
use Rattle.trace_text.proofs.ObjectLines.{free_percpu_word, free_percpu_lines}
use Rattle.trace_text.proofs.TargetLines.{same_target, target_alone, target_of_none, target_refused, target_ruled_out, target_stands, target_unplaced}
use Rattle.trace_text.proofs.object_lines.read_free_percpu.Goals as goal

pub returns-in_default : goal.returns-in_default
returns-in_default c = λ r held. target_of_none free_percpu_word c.args.progress.now r c.args.text.now c.args.text.now tt (free_percpu_lines r) (target_alone free_percpu_word c.args.text.now refl) (c.in_default.ensures.none r held)

pub returns-then-not-has_place : goal.returns-then-not-has_place
returns-then-not-has_place c = λ r held. target_unplaced free_percpu_word c.args.progress.now r c.args.text.now (free_percpu_lines r) (sym (c.has_place.ensures.place r held) ∙ c.if-not-has_place.true)

pub returns-then-target : goal.returns-then-target
returns-then-target c = λ r held.
    let names = c.in-Some.ensures.some r held in
    target_ruled_out free_percpu_word c.args.progress.now r c.args.text.now c.args.text.now tt (free_percpu_lines r) (target_alone free_percpu_word c.args.text.now refl)
    (λ t named spells own.
    let same : t ≡ names.aim = same_target c.args.text.now t names.aim named names.name spells names.spells in
    let opening : t.opening ≡ true = ap (λ (u : TargetName). u.opening) same ∙ sym names.opening ∙ c.if-target.true in
    cc)

pub returns-then-not-is_object : goal.returns-then-not-is_object
returns-then-not-is_object c = λ r held. target_refused free_percpu_word c.args.progress.now r c.args.text.now c.args.text.now tt c.in-Some.target c.in-Some.call (free_percpu_lines r) (target_alone free_percpu_word c.args.text.now refl) (c.in-Some.ensures.some r held)
    (sym c.is_object.ensures ∙ c.if-not-is_object.true)

pub returns : goal.returns
returns c = λ r held.
    let names = c.in-Some.ensures.some r held in
    let own : names.aim.opening ≡ false = sym names.opening ∙ c.if-target.false in
    target_stands free_percpu_word _ r c.args.text.now c.args.text.now tt c.in-Some.target c.in-Some.call (free_percpu_lines r) (target_alone free_percpu_word c.args.text.now refl) names
    (sym (c.has_place.ensures.place r held) ∙ c.if-not-has_place.false) names.name (ap not own) (sym c.is_object.ensures ∙ c.if-not-is_object.false) (c.in_ok-add_call.ensures r held)
