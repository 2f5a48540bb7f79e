use Rattle.std.proofs.Common.{arith, refl, ap, ◌∙◌, replicate, ◌-◌, ◌∷◌, ◌++◌, []}
use Rattle.trace_text.proofs.CallerLine.{caller_refused, caller_stands}
use Rattle.trace_text.specs.HeldLines.{header_of}
use Rattle.trace_text.specs.declared.progress.Progress.{Progress}
use Rattle.trace_text.proofs.lines.read_caller.Goals as goal

pub returns-then-caller-progress : goal.returns-then-caller-progress
returns-then-caller-progress c = λ r held. caller_refused c.args.progress.now c.args.progress.now r c.args.field.now c.in-Some.caller held c.in-Some.ensures.some.0 c.in-Some.ensures.some.1 (λ after before above among. grind arith)

pub returns : goal.returns
returns c = λ r held.
    let p = c.args.progress.now in
    let q = c.close_names.new.progress in
    let same = c.close_names.ensures.same in
    caller_stands p (record q { rank = 10; caller = c.in-Some.caller }) r c.args.field.now c.in-Some.caller held c.in-Some.ensures.some.0 c.in-Some.ensures.some.1 (omega arith) (omega arith) (omega arith) (omega arith)
    (record {
      rank = refl;
      header = ap header_of same;
      cpus = ap (λ (q : Progress). q.cpus) same;
      caller = refl;
      names = c.close_names.ensures.none;
      opening_names = c.close_names.ensures.kept;
      calls = ap (λ (q : Progress). q.calls.items) same ∙ ap (λ (v : _). v.items) c.replace-calls.ensures.after ∙ c.new.ensures.items;
      closed = ap (λ (q : Progress). q.closed.items) same ∙ c.in_ok-close_section.ensures ∙ ap (λ (v : _). p.closed.items ++ v.items ∷ replicate (c.in-Some.caller - 1 - p.caller) []) c.replace-calls.ensures.value;
      counts = ap (λ (q : Progress). q.counts.items) same;
      lines = ap (λ (q : Progress). q.lines) same;
      picks = ap (λ (q : Progress). q.picks.items) same;
    })
