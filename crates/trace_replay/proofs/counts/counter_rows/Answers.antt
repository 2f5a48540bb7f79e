use Rattle.std.proofs.Common.{rules, ◌≡◌, ℤ, FitsSigned, w32, List, length, ap, ◌∙◌, arith}
use Rattle.std.proofs.lemmas.Int.{to_z-of_z}
use Rattle.std.proofs.lemmas.Result.{IfOk-weaker}
use Rattle.vm_model.specs.declared.calls.CountLine.{CountLine}
use Rattle.vm_model.specs.declared.rows.CounterRow.{CounterRow}
use Rattle.trace_rules.specs.RuledTraces.{IsCount}
use Rattle.percpu_counters.specs.declared.table.Shape.{Shape}
use Rattle.percpu_counters.specs.Passes.{adds_of, shape_of}
use Rattle.percpu_counters.specs.RowsFromWords.{exact_rows}
use Rattle.report_text.specs.CounterTotals.{counter_rows}
use Rattle.trace_replay.proofs.TraceCounters.{rows-added, line_at, one_more, all_added, count_of-added}
use Rattle.trace_replay.proofs.counts.counter_rows.Goals as goal

pub loop-line-init : goal.loop-line-init
loop-line-init c =
    let started = c.in_ok-counted.ensures.started in
    record { pass = started.pass; alone = started.alone; adds = started.adds; room = (let room = started.spare in omega arith) }

pub add-requires-clause-pass : goal.add-requires-clause-pass
add-requires-clause-pass c = c.loop-line.invariant.pass

pub add-requires-clause-cell : goal.add-requires-clause-cell
add-requires-clause-cell c =
    let is : IsCount c.args.counters c.args.cpus (line_at c.args.lines.now c.loop-line.line-index) = c.requires.lines c.loop-line.line-index _ c.loop-line-test.true in
    let counter = is.counter in
    let cpu = is.cpu in
    let shape = c.in_ok-counted.ensures.started.shape in
    let counters = ap (λ (s : Shape). s.counters) shape in
    let cpus = ap (λ (s : Shape). s.cpus) shape in
    (omega arith, omega arith)

pub add-requires-clause-room : goal.add-requires-clause-room
add-requires-clause-room c = let room = c.loop-line.invariant.room in let low = c.loop-line-test.true in omega arith

pub loop-line-preserved : goal.loop-line-preserved
loop-line-preserved c =
    let so_far = c.loop-line.invariant in
    let amount : ℤ = (line_at c.args.lines.now c.loop-line.line-index).amount in
    let fits : FitsSigned w32 amount = search rules in
    record {
      pass = c.add.ensures.pass;
      alone = c.add.ensures.alone ∙ so_far.alone;
      adds = one_more (adds_of c.loop-line.pass) (adds_of c.add.new.pass) c.args.lines.now c.loop-line.line-index _ c.loop-line-test.true so_far.adds (to_z-of_z w32 amount fits) c.add.ensures.added;
      room = let more = c.add.ensures.room in let room = so_far.room in omega arith;
    }

pub close-requires-clause-pass : goal.close-requires-clause-pass
close-requires-clause-pass c = c.loop-line.invariant.pass

pub close-requires-clause-all : goal.close-requires-clause-all
close-requires-clause-all c =
    let so_far = c.loop-line.invariant in
    let over = c.loop-line-test.false in
    let within = c.loop-line.auto.line-index-end in
    let room = so_far.room in
    let asked = ap (λ (s : Shape). s.adds) c.in_ok-counted.ensures.started.shape in
    let adds = ap length (all_added (adds_of c.loop-line.pass) c.args.lines.now c.loop-line.line-index so_far.adds (omega arith)) in
    omega (arith, count_of-added c.args.lines.now)

pub returns : goal.returns
returns c =
    let so_far = c.loop-line.invariant in
    let over = c.loop-line-test.false in
    let lines : List CountLine = c.args.lines.now in
    let adds = all_added (adds_of c.loop-line.pass) lines c.loop-line.line-index so_far.adds (omega arith) in
    let shape = c.in_ok-counted.ensures.started.shape in
    IfOk-weaker c.close.result (λ (rows : List CounterRow). rows ≡ exact_rows (shape_of c.in_ok-counted.counted) (adds_of c.loop-line.pass)) (λ (rows : List CounterRow). rows ≡ counter_rows c.args.counters c.args.cpus c.args.batch lines)
    (λ rows is. is ∙ ap (λ (s : Shape). exact_rows s (adds_of c.loop-line.pass)) shape ∙ ap (counter_rows c.args.counters c.args.cpus c.args.batch) adds ∙ rows-added c.args.counters c.args.cpus c.args.batch lines)
    (c.close.ensures.alone so_far.alone)
