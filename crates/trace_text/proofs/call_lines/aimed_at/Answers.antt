use Rattle.std.proofs.Common.{sym, ◌∙◌, arith, refl}
use Rattle.trace_text.proofs.TargetCalls.{number_within, sized_target}
use Rattle.trace_text.proofs.call_lines.aimed_at.Goals as goal

pub overflow_cast-target : goal.overflow_cast-target
overflow_cast-target c =
    let (r, held) = c.requires.held in
    let within = number_within c.args.progress.now r (record { opening = c.in_ok-opening.opening; name = c.in_ok-opening.name.now }) c.in_ok-number.number _ held (sym (c.target_call.ensures r held) ∙ c.in_ok-number.was) in
    let room = c.requires.room in
    omega arith

pub returns-clause-some : goal.returns-clause-some
returns-clause-some c = λ r held. record {
  aim = record { opening = c.in_ok-opening.opening; name = c.in_ok-opening.name.now };
  name = c.in_ok-opening.ensures.some.0;
  spells = c.in_ok-opening.ensures.some.1;
  opening = refl;
  found = sym (c.target_call.ensures r held) ∙ c.in_ok-number.was;
  sized = sized_target c.args.progress.now r _ c.in_ok-number.number c.in_ok-number.call held (sym (c.target_call.ensures r held) ∙ c.in_ok-number.was);
}
