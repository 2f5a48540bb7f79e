use Rattle.std.proofs.Common.{◌∙◌, ◌++◌, ◌%◌, ap}
use Rattle.std.specs.Prelude.{pos, ◌-ℤ◌}
use Rattle.std.proofs.lemmas.Result.{on_ok_weaker}
use Rattle.trace_text.specs.SpelledLines.{Count}
use Rattle.trace_maker.specs.Generated.{drawn, next}
use Rattle.trace_maker.proofs.SectionLines.{count_text, line_more}
use Rattle.trace_maker.proofs.sections.count.Goals as goal

pub returns : goal.returns
returns c =
    let first = c.draw_below-counter.ensures.state in
    let second = c.draw_below-cpu.ensures.state ∙ ap next first in
    let third = c.draw_below-amount.ensures.state ∙ ap next second in
    let counter = next c.args.draws.now.state in
    let text = count_text (c.draw_below-counter.ensures.drawn ∙ ap (λ k. drawn k % 4) first) (c.draw_below-cpu.ensures.drawn ∙ ap (λ k. drawn k % 4) second) (ap (λ k. pos k -ℤ pos 50) (c.draw_below-amount.ensures.drawn ∙ ap (λ k. drawn k % 101) third)) in
    on_ok_weaker c.put_count.result (λ put s w. record {
      section = record {
        lines = line_more s.lines (Count (drawn counter % 4) (drawn (next counter) % 4) (pos (drawn (next (next counter)) % 101) -ℤ pos 50)) w.lines (put ∙ ap (λ t. c.args.section.now.lines.items ++ t) text);
        areas = w.areas;
        parts = w.parts;
        objects = w.objects;
      };
      state = third;
    }) c.put_count.ensures
