use Rattle.std.proofs.Common.{rules}
use Rattle.vm_model.specs.declared.areas.Span.{Span}
use Rattle.kernel_steps.proofs.StableSort.{sorted_by_key_is}
use Rattle.kernel_steps.proofs.tables.waiting_spans.Goals as goal

pub returns : goal.returns
returns c =
    sorted_by_key_is (λ (s : Span). s.start) c.args.lazy.now c.in_ok-spans.spans.items c.sort_by_key.new.self.items c.in_ok-spans.ensures
    c.in_ok-sort_by_key.ensures.sorted c.in_ok-sort_by_key.ensures.stable (λ a r q k. search rules)
