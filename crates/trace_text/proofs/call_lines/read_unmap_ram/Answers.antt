use Rattle.std.proofs.Common.{sym, ◌∙◌, refl}
use Rattle.trace_text.proofs.TargetLines.{unmap_ram_word, unmap_ram_lines, target_alone, target_of_none, target_refused, target_stands, target_unplaced}
use Rattle.trace_text.proofs.call_lines.read_unmap_ram.Goals as goal

pub returns-in_default : goal.returns-in_default
returns-in_default c = λ r held. target_of_none unmap_ram_word c.args.progress.now r c.args.text.now c.args.text.now tt (unmap_ram_lines r) (target_alone unmap_ram_word c.args.text.now refl) (c.in_default.ensures.none r held)

pub returns-then-not-has_place : goal.returns-then-not-has_place
returns-then-not-has_place c = λ r held. target_unplaced unmap_ram_word c.args.progress.now r c.args.text.now (unmap_ram_lines r) (sym (c.has_place.ensures.place r held) ∙ c.if-not-has_place.true)

pub returns-then-not-is_map_ram : goal.returns-then-not-is_map_ram
returns-then-not-is_map_ram c = λ r held. target_refused unmap_ram_word c.args.progress.now r c.args.text.now c.args.text.now tt c.in-Some.target c.in-Some.call (unmap_ram_lines r) (target_alone unmap_ram_word c.args.text.now refl) (c.in-Some.ensures.some r held)
    (sym c.is_map_ram.ensures ∙ c.if-not-is_map_ram.true)

pub returns : goal.returns
returns c = λ r held.
    let names = c.in-Some.ensures.some r held in
    target_stands unmap_ram_word _ r c.args.text.now c.args.text.now tt c.in-Some.target c.in-Some.call (unmap_ram_lines r) (target_alone unmap_ram_word c.args.text.now refl) names
    (sym (c.has_place.ensures.place r held) ∙ c.if-not-has_place.false) names.name refl (sym c.is_map_ram.ensures ∙ c.if-not-is_map_ram.false) (c.in_ok-add_call.ensures r held)
