use Rattle.std.proofs.Common.{◌≡◌, ◌+◌, ℕ, List, length, sym, ap, ◌∙◌, subst, arith}
use Rattle.unit_layout.specs.Config.{setup_of}
use Rattle.vm_model.specs.declared.calls.Call.{Call}
use Rattle.vm_model.specs.Setup.{Setup}
use Rattle.percpu_counters.specs.Passes.{shape_of}
use Rattle.kernel_steps.specs.Kernels.{KernelState, IsStanding, opening_of, callers_of, start_of}
use Rattle.kernel_steps.specs.KernelOfParts.{kernel_of}
use Rattle.section_table.specs.PassViews.{HasCaller}
use Rattle.caller_threads.proofs.CallersLeft.{starting_has}
use Rattle.caller_threads.proofs.RunsEnded.{few, many, within_reach, as_many, numbered}
use Rattle.trace_replay.proofs.Replays.{starts_on}
use Rattle.trace_replay.proofs.TraceCounters.{units_told}
use Rattle.trace_replay.proofs.LiveCounted.{shape_told, lines_within, callers_have}
use Rattle.count_lines.specs.Shares.{caller_of}
use Rattle.count_lines.specs.declared.share.Share.{Share}
use Rattle.std.specs.Prelude.{map}
use Rattle.std.specs.List.{range_with_len}
use Rattle.tests_live.proofs.driven.driven.Goals as goal

abbrev Stands : Setup → List (List Call) → KernelState → Type 0
Stands c sections k = IsStanding c (opening_of sections) (callers_of sections) (start_of c sections) k

-- there is a local for each share and one for the opening
as_many_locals : (c : Setup) (sections : List (List Call)) (k : KernelState) → Stands c sections k → (shares : List Share)
    → map caller_of shares ≡ range_with_len 1 (length (callers_of sections)) → length k.locals ≡ 1 + length shares
as_many_locals c sections k stands shares named =
    let all = many c sections k stands in
    let each = as_many shares (length (callers_of sections)) named in
    omega arith

pub share_out-requires-clause-lines : goal.share_out-requires-clause-lines
share_out-requires-clause-lines g c =
    let (r, ruled, tells) = c.requires in
    let told = c.args.trace in
    let lines = c.as_slice-lines.ensures ∙ tells.counts in
    let units = ap length c.units.ensures ∙ units_told told.config r tells.config in
    let shape = shape_told (shape_of c.in_ok-counters.counters) (length c.units.result.now) told.counters told.batch (length c.as_slice-lines.result.now) r c.in_ok-counters.ensures.started.shape units tells.counters tells.batch (ap length lines) in
    lines_within r (shape_of c.in_ok-counters.counters) told.callers c.as_slice-lines.result.now ruled shape tells.callers lines

pub start-requires-2 : goal.start-requires-2
start-requires-2 g c = let (r, ruled, tells) = c.requires in starts_on c.args.trace.config c.args.trace.calls r ruled tells.config tells.calls

pub start-requires-3-clause-some : goal.start-requires-3-clause-some
start-requires-3-clause-some g c =
    let setup : Setup = setup_of c.args.trace.config in
    let k : KernelState = kernel_of c.into_parts-regions.result in
    let all = many setup c.args.trace.calls k (subst (Stands setup c.args.trace.calls) (sym c.into_parts-regions.ensures) c.in_ok-kernel.ensures) in
    omega arith

pub start-requires-3-clause-few : goal.start-requires-3-clause-few
start-requires-3-clause-few g c =
    let setup : Setup = setup_of c.args.trace.config in
    few setup c.args.trace.calls (kernel_of c.into_parts-regions.result) (subst (Stands setup c.args.trace.calls) (sym c.into_parts-regions.ensures) c.in_ok-kernel.ensures)

pub start-requires-3-clause-reach : goal.start-requires-3-clause-reach
start-requires-3-clause-reach g c =
    let setup : Setup = setup_of c.args.trace.config in
    within_reach setup c.args.trace.calls (kernel_of c.into_parts-regions.result) (subst (Stands setup c.args.trace.calls) (sym c.into_parts-regions.ensures) c.in_ok-kernel.ensures)

pub drive-requires-clause-all : goal.drive-requires-clause-all
drive-requires-clause-all g c = λ κs within k low.
    let (r, ruled, tells) = c.requires in
    let setup : Setup = setup_of c.args.trace.config in
    let start : KernelState = kernel_of c.into_parts-regions.result in
    let stands = subst (Stands setup c.args.trace.calls) (sym c.into_parts-regions.ensures) c.in_ok-kernel.ensures in
    let named = callers_have r c.args.trace.calls c.in_ok-shares.shares.items tells.calls (c.in_ok-shares.ensures.shares.named ∙ ap (range_with_len 1) tells.callers) in
    let all = as_many_locals setup c.args.trace.calls start stands c.in_ok-shares.shares.items named in
    subst (HasCaller k) (sym c.in_ok-table.ensures.pass) (starting_has start.locals k (omega arith))

pub drive-requires-clause-numbered : goal.drive-requires-clause-numbered
drive-requires-clause-numbered g c = λ κs within.
    let (r, ruled, tells) = c.requires in
    let named : map caller_of c.in_ok-shares.shares.items ≡ range_with_len 1 (length (callers_of c.args.trace.calls))
    = callers_have r c.args.trace.calls c.in_ok-shares.shares.items tells.calls (c.in_ok-shares.ensures.shares.named ∙ ap (range_with_len 1) tells.callers) in
    numbered c.in_ok-shares.shares.items (length (callers_of c.args.trace.calls)) named

pub close-requires-clause-all : goal.close-requires-clause-all
close-requires-clause-all g c = λ k low.
    let (r, ruled, tells) = c.requires in
    let setup : Setup = setup_of c.args.trace.config in
    let start : KernelState = kernel_of c.into_parts-regions.result in
    let stands = subst (Stands setup c.args.trace.calls) (sym c.into_parts-regions.ensures) c.in_ok-kernel.ensures in
    let named = callers_have r c.args.trace.calls c.in_ok-shares.shares.items tells.calls (c.in_ok-shares.ensures.shares.named ∙ ap (range_with_len 1) tells.callers) in
    let all = as_many_locals setup c.args.trace.calls start stands c.in_ok-shares.shares.items named in
    let same = ap length c.in_ok-table.ensures.locals in
    c.in_ok-pass.ensures.all k (omega arith)
