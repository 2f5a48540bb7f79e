use Rattle.std.proofs.Common.{sym, ◌∙◌, codes}
use Rattle.vm_model.specs.declared.calls.Call.TheVariants as call
use Rattle.trace_text.specs.SpelledLines.{Balance}
use Rattle.trace_text.proofs.BareLines.{balance_line, bare_refused, bare_stands}
use Rattle.trace_text.proofs.object_lines.read_balance.Goals as goal

pub returns-then-not-has_place : goal.returns-then-not-has_place
returns-then-not-has_place c = λ r held. bare_refused c.args.progress.now r (codes "balance") Balance call.Balance (balance_line r) (sym (c.has_place.ensures.place r held) ∙ c.if-not-has_place.true)

pub returns : goal.returns
returns c = λ r held. bare_stands _ r (codes "balance") Balance call.Balance (balance_line r) (sym (c.has_place.ensures.place r held) ∙ c.if-not-has_place.false) (c.in_ok-add_call.ensures r held)
