use Rattle.std.proofs.Common.{◌≡◌, ◌-◌, ◌++◌, ℕ, List, length, take, drop, false, refl, ap, ◌∙◌, arith, length-drop}
use Rattle.std.proofs.lemmas.List.{take_all}
use Rattle.report_text.specs.Report.{report, schedule}
use Rattle.trace_replay.proofs.Replays.{starts_on}
use Rattle.trace_replay.proofs.LiveCounted.{callers_have, as_many, totals_told}
use Rattle.trace_replay.proofs.LiveReported.{live_reported}
use Rattle.trace_replay.proofs.live_command.live_report.Goals as goal

rest_of : (n : ℕ) (xs : List ℕ) → take (length xs - n) (drop n xs) ≡ drop n xs
rest_of n xs = take_all (length xs - n) (drop n xs) (omega (arith, length-drop n xs))

pub live_kernel-requires-clause-can : goal.live_kernel-requires-clause-can
live_kernel-requires-clause-can g c = λ κs within. let (reading, ruled, tells) = c.requires in starts_on c.args.trace.config c.args.trace.calls reading ruled tells.config tells.calls

pub live_kernel-requires-clause-shares : goal.live_kernel-requires-clause-shares
live_kernel-requires-clause-shares g c = λ κs within. let (reading, ruled, tells) = c.requires in (c.in_ok-counters.ensures reading ruled tells).shared.each

pub live_kernel-requires-clause-callers : goal.live_kernel-requires-clause-callers
live_kernel-requires-clause-callers g c = λ κs within.
    let (reading, ruled, tells) = c.requires in callers_have reading c.args.trace.calls c.in_ok-counters.field-0.shares.items tells.calls (c.in_ok-counters.ensures reading ruled tells).shared.named

pub finish_counts-requires-clause-pass : goal.finish_counts-requires-clause-pass
finish_counts-requires-clause-pass g c = let (reading, ruled, tells) = c.requires in (c.in_ok-counters.ensures reading ruled tells).pass

pub finish_counts-requires-clause-all : goal.finish_counts-requires-clause-all
finish_counts-requires-clause-all g c =
    let (reading, ruled, tells) = c.requires in
    as_many reading ruled c.in_ok-counters.field-0.counters c.in_ok-counters.field-0.pass c.in_ok-counters.field-0.shares.items c.in_ok-kernel.field-0.shares.items (c.in_ok-counters.ensures reading ruled tells) c.in_ok-kernel.ensures.shares

pub returns : goal.returns
returns g c =
    let is = c.in_ok-kernel.ensures.run in
    let first : c.in_ok-schedule.schedule ≡ schedule is.0 = c.in_ok-schedule.ensures ∙ ap schedule (rest_of c.in_ok-kernel.field-0.opening c.moved.result.now) ∙ ap (λ xs. schedule (drop c.in_ok-kernel.field-0.opening xs)) c.moved.ensures ∙ ap schedule is.2 in
    let text : c.of.result ≡ schedule is.0 ++ report c.in_ok-tables.tables c.in_ok-rows.rows false =
    c.of.ensures
    ∙ c.in_ok-extend_from_slice.ensures.items
    ∙ ap (λ xs. xs ++ c.as_slice.result.now) (c.into_vec-bytes.ensures ∙ first)
    ∙ ap (λ ys. schedule is.0 ++ ys) (c.as_slice.ensures ∙ c.in_ok-report.ensures) in
    λ reading ruled tells. (
      refl,
      live_reported c.args.trace.config c.args.trace.calls reading ruled tells.config tells.calls is.0 c.in_ok-kernel.field-0.kernel is.1 c.in_ok-tables.tables c.in_ok-rows.rows c.of.result c.in_ok-tables.ensures
          (totals_told reading ruled c.in_ok-counters.field-0.counters c.in_ok-counters.field-0.pass c.in_ok-counters.field-0.shares.items c.in_ok-kernel.field-0.shares.items (c.in_ok-counters.ensures reading ruled tells) c.in_ok-kernel.ensures.shares c.in_ok-rows.rows c.in_ok-rows.ensures) text,
    )
