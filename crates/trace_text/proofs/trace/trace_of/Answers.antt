use Rattle.std.proofs.Common.{◌≡◌, ◌≤◌, ◌∙◌, sym, ap, arith, suc}
use Rattle.unit_layout.specs.LayoutRule.{Numbers, layout_of}
use Rattle.unit_layout.specs.declared.config.Config.{Config}
use Rattle.trace_text.specs.Reading.{Header}
use Rattle.trace_text.specs.ToldTraces.{asked_layout, config_of}
use Rattle.trace_text.specs.HeldLines.{header_of, sections_below}
use Rattle.trace_text.proofs.SectionCalls.{held_sections}
use Rattle.trace_text.proofs.trace.trace_of.Goals as goal

pub returns-clause-trace : goal.returns-clause-trace
returns-clause-trace c = λ r held.
    let p = c.args.progress in
    let callers : p.callers ≡ r.header.callers = ap (λ (h : Header). h.callers) (sym held.header) in
    let among : r.caller ≤ p.callers = (let few = held.among in omega arith) in
    let same : c.replace-groups.result.items ≡ p.groups.items = ap (λ (v : _). v.items) c.replace-groups.ensures.value in
    let laid : Numbers → Config = λ layout. record (config_of (header_of p)) { layout = layout } in
    record {
      config = c.config-config.ensures ∙ ap laid (c.in_ok-layout.ensures.layout ∙ ap (λ groups. layout_of (asked_layout p.unit_pages p.atom groups)) same) ∙ ap config_of (sym held.header);
      calls = c.of.ensures ∙ c.in_ok-close_section.ensures ∙ held_sections p r p.callers held among ∙ ap (λ n. sections_below (suc n) r.calls) callers;
      counts = c.of-2.ensures ∙ held.counts;
      picks = c.of-3.ensures ∙ held.picks;
      callers = callers;
      counters = ap (λ (h : Header). h.counters) (sym held.header);
      batch = ap (λ (h : Header). h.batch) (sym held.header);
    }
