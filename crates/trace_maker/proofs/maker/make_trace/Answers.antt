use Rattle.std.proofs.Common.{◌∙◌, ◌*◌, ◌++◌, ap, arith, replicate}
use Rattle.trace_text.specs.SpelledLines.{text_of}
use Rattle.trace_maker.specs.Generated.{Making, generated, made, no_lines, header_lines, sections_from, order_lines, drawn_picks}
use Rattle.trace_maker.proofs.Makings.{whole}
use Rattle.trace_maker.proofs.maker.make_trace.Goals as goal

pub returns : goal.returns
unfolding generated
returns c =
    let calls = c.args.calls in
    let first : Making = record { sections = replicate 8 no_lines; state = c.args.start } in
    let last = made calls 1 first in
    let all = c.in_ok-add_lines.ensures first (c.no_sections-sections.ensures c.args.start) in
    let state = c.add_lines.new.draws.state in
    c.of.ensures ∙ whole header_lines (sections_from 1 last.sections) (order_lines calls (drawn_picks (4 * calls) last.state)) c.put_header.new.text.items c.put_sections.new.text.items c.put_order.new.text.items c.put_line.new.text.items
    (c.in_ok-put_header.ensures ∙ ap (λ t. t ++ text_of header_lines) c.new-text.ensures.items)
    (c.in_ok-put_sections.ensures state last all)
    (c.in_ok-put_order.ensures calls (omega arith) ∙ ap (λ s. c.put_sections.new.text.items ++ text_of (order_lines calls (drawn_picks (4 * calls) s))) all.state)
    c.in_ok-put_line.ensures
