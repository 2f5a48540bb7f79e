use Rattle.std.proofs.Common.{sym, ◌∙◌, refl, arith}
use Rattle.std.proofs.lemmas.Bool.{and_from}
use Rattle.vm_model.specs.Words.{is_name, is_number}
use Rattle.trace_text.proofs.ObjectLines.{no_sum_text, small_index, sum_lines, sum_text, sum_word}
use Rattle.trace_text.proofs.TargetLines.{target_of_none, target_refused, target_stands, target_unplaced}
use Rattle.trace_text.proofs.object_lines.read_sum.Goals as goal

pub returns-then-not-has_place : goal.returns-then-not-has_place
returns-then-not-has_place c = λ r held. target_unplaced sum_word c.args.progress.now r c.args.text.now (sum_lines r) (sym (c.has_place.ensures.place r held) ∙ c.if-not-has_place.true)

pub returns-in_default : goal.returns-in_default
returns-in_default c = λ r held. no_sum_text c.args.progress.now r c.args.text.now c.in_default.ensures.none

pub returns-in_default-aimed_at : goal.returns-in_default-aimed_at
returns-in_default-aimed_at c = λ r held.
    let is = c.in-Some.ensures.some in
    target_of_none sum_word c.args.progress.now r c.args.text.now c.in-Some.aim.now c.in-Some.index (sum_lines r) (sum_text c.args.text.now c.in-Some.aim.now c.in-Some.index is.0 is.1 is.2) (c.in_default-aimed_at.ensures.none r held)

pub returns-then-not-has_word : goal.returns-then-not-has_word
returns-then-not-has_word c = λ r held.
    let is = c.in-Some.ensures.some in
    target_refused sum_word c.args.progress.now r c.args.text.now c.in-Some.aim.now c.in-Some.index c.in-Some-aimed_at.target c.in-Some-aimed_at.call (sum_lines r) (sum_text c.args.text.now c.in-Some.aim.now c.in-Some.index is.0 is.1 is.2)
    (c.in-Some-aimed_at.ensures.some r held) (sym c.has_word.ensures ∙ c.if-not-has_word.true)

pub overflow_cast-index : goal.overflow_cast-index
overflow_cast-index c =
    let (r, held) = c.requires.held in
    let names = c.in-Some-aimed_at.ensures.some r held in
    let small = small_index c.in-Some.index c.in-Some-aimed_at.call names.sized (sym c.has_word.ensures ∙ c.if-not-has_word.false) in
    omega arith

pub returns : goal.returns
returns c = λ r held.
    let is = c.in-Some.ensures.some in
    let names = c.in-Some-aimed_at.ensures.some r held in
    target_stands sum_word _ r c.args.text.now c.in-Some.aim.now c.in-Some.index c.in-Some-aimed_at.target c.in-Some-aimed_at.call (sum_lines r) (sum_text c.args.text.now c.in-Some.aim.now c.in-Some.index is.0 is.1 is.2) names
    (sym (c.has_place.ensures.place r held) ∙ c.if-not-has_place.false) (and_from (is_name names.aim.name) (is_number c.in-Some.index) names.name is.1) refl (sym c.has_word.ensures ∙ c.if-not-has_word.false) (c.in_ok-add_call.ensures r held)
