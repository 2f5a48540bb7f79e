use Rattle.std.proofs.Common.{sym, ◌∙◌, refl}
use Rattle.trace_text.proofs.TargetLines.{vfree_word, vfree_lines, target_alone, target_of_none, target_refused, target_stands, target_unplaced}
use Rattle.trace_text.proofs.call_lines.read_vfree.Goals as goal

pub returns-in_default : goal.returns-in_default
returns-in_default c = λ r held. target_of_none vfree_word c.args.progress.now r c.args.text.now c.args.text.now tt (vfree_lines r) (target_alone vfree_word c.args.text.now refl) (c.in_default.ensures.none r held)

pub returns-then-not-has_place : goal.returns-then-not-has_place
returns-then-not-has_place c = λ r held. target_unplaced vfree_word c.args.progress.now r c.args.text.now (vfree_lines r) (sym (c.has_place.ensures.place r held) ∙ c.if-not-has_place.true)

pub returns-then-not-is_vmalloc : goal.returns-then-not-is_vmalloc
returns-then-not-is_vmalloc c = λ r held. target_refused vfree_word c.args.progress.now r c.args.text.now c.args.text.now tt c.in-Some.target c.in-Some.call (vfree_lines r) (target_alone vfree_word c.args.text.now refl) (c.in-Some.ensures.some r held)
    (sym c.is_vmalloc.ensures ∙ c.if-not-is_vmalloc.true)

pub returns : goal.returns
returns c = λ r held.
    let names = c.in-Some.ensures.some r held in
    target_stands vfree_word _ r c.args.text.now c.args.text.now tt c.in-Some.target c.in-Some.call (vfree_lines r) (target_alone vfree_word c.args.text.now refl) names
    (sym (c.has_place.ensures.place r held) ∙ c.if-not-has_place.false) names.name refl (sym c.is_vmalloc.ensures ∙ c.if-not-is_vmalloc.false) (c.in_ok-add_call.ensures r held)
