use Rattle.std.proofs.Common.{◌≡◌, ◌++◌, codes, sym, rules}
use Rattle.std.proofs.lemmas.Slice.Eq.{bytes_eq-Decides}
use Rattle.trace_text.specs.LineWords.{is_percpu_or_header}
use Rattle.trace_text.proofs.OtherLines.{steps_header}
use Rattle.trace_text.proofs.Pairs.{with_front}
use Rattle.trace_text.proofs.ReaderTurns.{steps_in_if_ok}
use Rattle.trace_text.proofs.lines.read_percpu_line.Goals as goal

pub returns-in-Some : goal.returns-in-Some
returns-in-Some c = steps_in_if_ok is_percpu_or_header (codes "alloc_percpu " ++ c.in-Some.text.now) c.args.line.now c.read_alloc_percpu.result c.args.progress.now c.read_alloc_percpu.new.progress
    (with_front 13 c.args.line.now (codes "alloc_percpu ") c.in-Some.text.now c.in-Some.ensures.cases.0 c.in-Some.ensures.cases.1) c.read_alloc_percpu.ensures

pub returns-in-Some-strip_prefix : goal.returns-in-Some-strip_prefix
returns-in-Some-strip_prefix c = steps_in_if_ok is_percpu_or_header (codes "alloc_atomic " ++ c.in-Some-strip_prefix.text.now) c.args.line.now c.read_alloc_atomic.result c.args.progress.now c.read_alloc_atomic.new.progress
    (with_front 13 c.args.line.now (codes "alloc_atomic ") c.in-Some-strip_prefix.text.now c.in-Some-strip_prefix.ensures.cases.0 c.in-Some-strip_prefix.ensures.cases.1) c.read_alloc_atomic.ensures

pub returns-in-Some-strip_prefix-2 : goal.returns-in-Some-strip_prefix-2
returns-in-Some-strip_prefix-2 c = steps_in_if_ok is_percpu_or_header (codes "free_percpu " ++ c.in-Some-strip_prefix-2.text.now) c.args.line.now c.read_free_percpu.result c.args.progress.now c.read_free_percpu.new.progress
    (with_front 12 c.args.line.now (codes "free_percpu ") c.in-Some-strip_prefix-2.text.now c.in-Some-strip_prefix-2.ensures.cases.0 c.in-Some-strip_prefix-2.ensures.cases.1) c.read_free_percpu.ensures

pub returns-in-Some-strip_prefix-3 : goal.returns-in-Some-strip_prefix-3
returns-in-Some-strip_prefix-3 c = steps_in_if_ok is_percpu_or_header (codes "add " ++ c.in-Some-strip_prefix-3.text.now) c.args.line.now c.read_add.result c.args.progress.now c.read_add.new.progress
    (with_front 4 c.args.line.now (codes "add ") c.in-Some-strip_prefix-3.text.now c.in-Some-strip_prefix-3.ensures.cases.0 c.in-Some-strip_prefix-3.ensures.cases.1) c.read_add.ensures

pub returns-in-Some-strip_prefix-4 : goal.returns-in-Some-strip_prefix-4
returns-in-Some-strip_prefix-4 c = steps_in_if_ok is_percpu_or_header (codes "sum " ++ c.in-Some-strip_prefix-4.text.now) c.args.line.now c.read_sum.result c.args.progress.now c.read_sum.new.progress
    (with_front 4 c.args.line.now (codes "sum ") c.in-Some-strip_prefix-4.text.now c.in-Some-strip_prefix-4.ensures.cases.0 c.in-Some-strip_prefix-4.ensures.cases.1) c.read_sum.ensures

pub returns-in-Some-strip_prefix-5 : goal.returns-in-Some-strip_prefix-5
returns-in-Some-strip_prefix-5 c = steps_in_if_ok is_percpu_or_header (codes "count " ++ c.in-Some-strip_prefix-5.text.now) c.args.line.now c.read_count.result c.args.progress.now c.read_count.new.progress
    (with_front 6 c.args.line.now (codes "count ") c.in-Some-strip_prefix-5.text.now c.in-Some-strip_prefix-5.ensures.cases.0 c.in-Some-strip_prefix-5.ensures.cases.1) c.read_count.ensures

pub returns-then-eq : goal.returns-then-eq
returns-then-eq c =
    let same : c.args.line.now ≡ codes "balance" = (bytes_eq-Decides c.args.line.now (codes "balance")).0 (search rules) in
    steps_in_if_ok is_percpu_or_header (codes "balance") c.args.line.now c.read_balance.result c.args.progress.now c.read_balance.new.progress (sym same) c.read_balance.ensures

pub returns : goal.returns
returns c = λ r held. steps_header r c.args.line.now c.read_header_line.result c.read_header_line.new.progress
    (record {
      alloc_percpu = c.in_default.ensures.cases;
      alloc_atomic = c.in_default-strip_prefix.ensures.cases;
      free_percpu = c.in_default-strip_prefix-2.ensures.cases;
      add = c.in_default-strip_prefix-3.ensures.cases;
      sum = c.in_default-strip_prefix-4.ensures.cases;
      count = c.in_default-strip_prefix-5.ensures.cases;
      balance = search rules;
    })
    (c.read_header_line.ensures r held)
