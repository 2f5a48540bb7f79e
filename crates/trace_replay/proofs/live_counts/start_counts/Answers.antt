use Rattle.std.proofs.Common.{◌≡◌, ◌+◌, ◌++◌, ℕ, List, length, map, ap, ◌∙◌, subst, arith}
use Rattle.vm_model.specs.declared.calls.CountLine.{CountLine}
use Rattle.percpu_counters.specs.declared.table.Shape.{Shape}
use Rattle.percpu_counters.specs.Passes.{shape_of}
use Rattle.count_lines.specs.LinesOfCaller.{added_by, lines_by}
use Rattle.count_lines.specs.Shares.{AreSharesOf}
use Rattle.trace_replay.proofs.TraceCounters.{units_told}
use Rattle.trace_replay.proofs.LiveCounted.{shape_told, lines_within}
use Rattle.trace_replay.proofs.live_counts.start_counts.Goals as goal

pub share_out-requires-clause-lines : goal.share_out-requires-clause-lines
share_out-requires-clause-lines c =
    let (r, ruled, tells) = c.requires in
    let lines = c.as_slice-lines.ensures ∙ tells.counts in
    let units = ap length c.units.ensures ∙ units_told c.args.trace.now.config r tells.config in
    let shape = shape_told (shape_of c.in_ok-counters.counters) (length c.units.result.now) c.args.trace.now.counters c.args.trace.now.batch (length c.as_slice-lines.result.now) r c.in_ok-counters.ensures.started.shape units tells.counters tells.batch (ap length lines) in
    lines_within r (shape_of c.in_ok-counters.counters) c.args.trace.now.callers c.as_slice-lines.result.now ruled shape tells.callers lines

pub returns : goal.returns
returns c = λ r ruled tells.
    let lines = c.as_slice-lines.ensures ∙ tells.counts in
    let units = ap length c.units.ensures ∙ units_told c.args.trace.now.config r tells.config in
    let started = c.in_ok-counters.ensures.started in
    record {
      shape = shape_told (shape_of c.in_ok-counters.counters) (length c.units.result.now) c.args.trace.now.counters c.args.trace.now.batch (length c.as_slice-lines.result.now) r started.shape units tells.counters tells.batch (ap length lines);
      pass = c.in_ok-shares.ensures.pass;
      adds = c.in_ok-shares.ensures.adds ∙ ap (λ (done : List CountLine). done ++ map added_by (lines_by 0 c.as_slice-lines.result.now)) started.adds ∙ ap (λ (ls : List CountLine). map added_by (lines_by 0 ls)) lines;
      spare = (let spent = c.in_ok-shares.ensures.spare in let all = started.spare in omega arith);
      shared = subst (λ (n : ℕ). AreSharesOf c.in_ok-counters.counters n r.counts c.in_ok-shares.shares.items) tells.callers
          (subst (λ (ls : List CountLine). AreSharesOf c.in_ok-counters.counters c.args.trace.now.callers ls c.in_ok-shares.shares.items) lines c.in_ok-shares.ensures.shares);
    }
