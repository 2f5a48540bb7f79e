use Rattle.std.proofs.Common.{rules, ◌≡◌, ◌+◌, ◌++◌, ℕ, List, length, drop, sym, ap, ◌∙◌, subst, arith}
use Rattle.vm_model.specs.declared.calls.Call.{Call}
use Rattle.vm_model.specs.Setup.{Setup}
use Rattle.unit_layout.specs.Config.{setup_of}
use Rattle.kernel_steps.specs.Kernels.{KernelState, IsStanding, opening_of, callers_of, start_of}
use Rattle.kernel_steps.specs.KernelOfParts.{kernel_of}
use Rattle.caller_threads.proofs.RunsEnded.{few, many, within_reach, as_many, numbered, end, stands, run_ended}
use Rattle.kernel_steps.specs.KernelRuns.{HasEnded}
use Rattle.kernel_steps.proofs.Moves.{dropped}
use Rattle.caller_threads.proofs.CallersLeft.{starting_has}
use Rattle.section_table.specs.PassViews.{HasCaller, HasAll}
use Rattle.caller_threads.proofs.live.live_kernel.Goals as goal

abbrev Stands : Setup → List (List Call) → KernelState → Type 0
Stands c sections k = IsStanding c (opening_of sections) (callers_of sections) (start_of c sections) k

pub start-requires-2-clause-some : goal.start-requires-2-clause-some
start-requires-2-clause-some g c =
    let k : KernelState = kernel_of c.into_parts-regions.result in
    let st : Stands (setup_of c.args.config) c.args.sections k = subst (Stands (setup_of c.args.config) c.args.sections) (sym c.into_parts-regions.ensures) c.in_ok-kernel.ensures in
    let all = many (setup_of c.args.config) c.args.sections k st in
    omega arith

pub start-requires-2-clause-few : goal.start-requires-2-clause-few
start-requires-2-clause-few g c =
    let k : KernelState = kernel_of c.into_parts-regions.result in
    few (setup_of c.args.config) c.args.sections k (subst (Stands (setup_of c.args.config) c.args.sections) (sym c.into_parts-regions.ensures) c.in_ok-kernel.ensures)

pub start-requires-2-clause-reach : goal.start-requires-2-clause-reach
start-requires-2-clause-reach g c =
    let k : KernelState = kernel_of c.into_parts-regions.result in
    within_reach (setup_of c.args.config) c.args.sections k (subst (Stands (setup_of c.args.config) c.args.sections) (sym c.into_parts-regions.ensures) c.in_ok-kernel.ensures)

pub drive-requires-clause-all : goal.drive-requires-clause-all
drive-requires-clause-all g c = λ κs within k low.
    let start : KernelState = kernel_of c.into_parts-regions.result in
    let st : Stands (setup_of c.args.config) c.args.sections start = subst (Stands (setup_of c.args.config) c.args.sections) (sym c.into_parts-regions.ensures) c.in_ok-kernel.ensures in
    let all = many (setup_of c.args.config) c.args.sections start st in
    let shares = as_many c.args.shares.items (length (callers_of c.args.sections)) c.requires.callers in
    subst (HasCaller k) (sym c.in_ok-table.ensures.pass) (starting_has start.locals k (omega arith))

pub drive-requires-clause-numbered : goal.drive-requires-clause-numbered
drive-requires-clause-numbered g c = λ κs within. numbered c.args.shares.items (length (callers_of c.args.sections)) c.requires.callers

pub close-requires-clause-all : goal.close-requires-clause-all
close-requires-clause-all g c = λ k low.
    let start : KernelState = kernel_of c.into_parts-regions.result in
    let st : Stands (setup_of c.args.config) c.args.sections start = subst (Stands (setup_of c.args.config) c.args.sections) (sym c.into_parts-regions.ensures) c.in_ok-kernel.ensures in
    let all = many (setup_of c.args.config) c.args.sections start st in
    let shares = as_many c.args.shares.items (length (callers_of c.args.sections)) c.requires.callers in
    let same = ap length c.in_ok-table.ensures.locals in
    c.in_ok-pass.ensures.all k (omega arith)

pub from_parts-kernel-requires : goal.from_parts-kernel-requires
from_parts-kernel-requires g c =
    let setup : Setup = setup_of c.args.config in
    let sections : List (List Call) = c.args.sections in
    let start : KernelState = kernel_of c.into_parts-regions.result in
    let st : Stands setup sections start = subst (Stands setup sections) (sym c.into_parts-regions.ensures) c.in_ok-kernel.ensures in
    let told = c.in_ok-table.ensures in (
      setup,
      opening_of sections,
      callers_of sections,
      end setup sections start st c.in_ok-table.table.table.shared.key c.in_ok-pass.pass.place.me.0 c.in_ok-regions.field-0 told.regions told.locals c.in_ok-regions.ensures,
      stands setup sections start st c.in_ok-table.table.table.shared.key c.in_ok-pass.pass.place.me.0 c.in_ok-regions.field-0 told.regions told.locals c.in_ok-regions.ensures c.append.new.self.items c.in_ok-append.ensures.items,
    )

pub returns-clause-run : goal.returns-clause-run
returns-clause-run g c =
    let setup : Setup = setup_of c.args.config in
    let sections : List (List Call) = c.args.sections in
    let start : KernelState = kernel_of c.into_parts-regions.result in
    let st : Stands setup sections start = subst (Stands setup sections) (sym c.into_parts-regions.ensures) c.in_ok-kernel.ensures in
    let told = c.in_ok-table.ensures in
    let picks : List ℕ = c.in_ok-regions.field-0.picks.items in
    let shares = as_many c.args.shares.items (length (callers_of sections)) c.requires.callers in
    let v = c.in_ok-pass.pass.place.me.0 in
    let opened : c.len-opening.result ≡ length start.moved = search rules in
    let more : c.append.new.self.items ≡ start.moved ++ picks = c.in_ok-append.ensures.items in (
      picks,
      subst (HasEnded setup sections picks) (sym c.from_parts-kernel.ensures)
          (run_ended setup sections start st c.in_ok-table.table.table.shared.key v c.in_ok-regions.field-0 told.regions told.locals c.in_ok-regions.ensures (subst (λ n. HasAll (1 + n) v) shares c.in_ok-pass.ensures.all) c.in_ok-pass.ensures.ended
          c.append.new.self.items more),
      ap (drop c.len-opening.result) (ap (λ (k : KernelState). k.moved) c.from_parts-kernel.ensures ∙ more)
          ∙ ap (λ n. drop n (start.moved ++ picks)) opened
          ∙ dropped start.moved picks,
    )
