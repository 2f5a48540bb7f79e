use Rattle.std.proofs.Common.{◌≡◌, ◌++◌, codes, sym, rules}
use Rattle.std.proofs.lemmas.Slice.Eq.{bytes_eq-Decides}
use Rattle.trace_text.specs.LineWords.{one_of, words_of_header}
use Rattle.trace_text.proofs.OtherLines.{no_header_line}
use Rattle.trace_text.proofs.Pairs.{with_front}
use Rattle.trace_text.proofs.ReaderTurns.{steps_in}
use Rattle.trace_text.proofs.header_lines.read_header_line.Goals as goal

pub returns-in-Some : goal.returns-in-Some
returns-in-Some c = λ r held. steps_in (one_of words_of_header) r (codes "callers " ++ c.in-Some.field.now) c.args.line.now c.read_callers.result c.read_callers.new.progress
    (with_front 8 c.args.line.now (codes "callers ") c.in-Some.field.now c.in-Some.ensures.cases.0 c.in-Some.ensures.cases.1) (c.read_callers.ensures r held)

pub returns-in-Some-strip_prefix : goal.returns-in-Some-strip_prefix
returns-in-Some-strip_prefix c = λ r held. steps_in (one_of words_of_header) r (codes "frames " ++ c.in-Some-strip_prefix.field.now) c.args.line.now c.read_frames.result c.read_frames.new.progress
    (with_front 7 c.args.line.now (codes "frames ") c.in-Some-strip_prefix.field.now c.in-Some-strip_prefix.ensures.cases.0 c.in-Some-strip_prefix.ensures.cases.1) (c.read_frames.ensures r held)

pub returns-in-Some-strip_prefix-2 : goal.returns-in-Some-strip_prefix-2
returns-in-Some-strip_prefix-2 c = λ r held. steps_in (one_of words_of_header) r (codes "block " ++ c.in-Some-strip_prefix-2.text.now) c.args.line.now c.read_block.result c.read_block.new.progress
    (with_front 6 c.args.line.now (codes "block ") c.in-Some-strip_prefix-2.text.now c.in-Some-strip_prefix-2.ensures.cases.0 c.in-Some-strip_prefix-2.ensures.cases.1) (c.read_block.ensures r held)

pub returns-in-Some-strip_prefix-3 : goal.returns-in-Some-strip_prefix-3
returns-in-Some-strip_prefix-3 c = λ r held. steps_in (one_of words_of_header) r (codes "lazy " ++ c.in-Some-strip_prefix-3.field.now) c.args.line.now c.read_lazy.result c.read_lazy.new.progress
    (with_front 5 c.args.line.now (codes "lazy ") c.in-Some-strip_prefix-3.field.now c.in-Some-strip_prefix-3.ensures.cases.0 c.in-Some-strip_prefix-3.ensures.cases.1) (c.read_lazy.ensures r held)

pub returns-in-Some-strip_prefix-4 : goal.returns-in-Some-strip_prefix-4
returns-in-Some-strip_prefix-4 c = λ r held. steps_in (one_of words_of_header) r (codes "space " ++ c.in-Some-strip_prefix-4.field.now) c.args.line.now c.read_space.result c.read_space.new.progress
    (with_front 6 c.args.line.now (codes "space ") c.in-Some-strip_prefix-4.field.now c.in-Some-strip_prefix-4.ensures.cases.0 c.in-Some-strip_prefix-4.ensures.cases.1) (c.read_space.ensures r held)

pub returns-in-Some-strip_prefix-5 : goal.returns-in-Some-strip_prefix-5
returns-in-Some-strip_prefix-5 c = λ r held. steps_in (one_of words_of_header) r (codes "unit " ++ c.in-Some-strip_prefix-5.text.now) c.args.line.now c.read_unit.result c.read_unit.new.progress
    (with_front 5 c.args.line.now (codes "unit ") c.in-Some-strip_prefix-5.text.now c.in-Some-strip_prefix-5.ensures.cases.0 c.in-Some-strip_prefix-5.ensures.cases.1) (c.read_unit.ensures r held)

pub returns-in-Some-strip_prefix-6 : goal.returns-in-Some-strip_prefix-6
returns-in-Some-strip_prefix-6 c = λ r held. steps_in (one_of words_of_header) r (codes "counters " ++ c.in-Some-strip_prefix-6.text.now) c.args.line.now c.read_counters.result c.read_counters.new.progress
    (with_front 9 c.args.line.now (codes "counters ") c.in-Some-strip_prefix-6.text.now c.in-Some-strip_prefix-6.ensures.cases.0 c.in-Some-strip_prefix-6.ensures.cases.1) (c.read_counters.ensures r held)

pub returns-then-eq : goal.returns-then-eq
returns-then-eq c = λ r held.
    let same : c.args.line.now ≡ codes "vmtrace 1" = (bytes_eq-Decides c.args.line.now (codes "vmtrace 1")).0 (search rules) in
    steps_in (one_of words_of_header) r (codes "vmtrace 1") c.args.line.now c.read_version.result c.read_version.new.progress (sym same) (c.read_version.ensures r held)

pub returns : goal.returns
returns c = λ r held l known s e. no_header_line r c.args.line.now l known s e
    (record {
      callers = c.in_default.ensures.cases;
      frames = c.in_default-strip_prefix.ensures.cases;
      block = c.in_default-strip_prefix-2.ensures.cases;
      lazy = c.in_default-strip_prefix-3.ensures.cases;
      space = c.in_default-strip_prefix-4.ensures.cases;
      unit = c.in_default-strip_prefix-5.ensures.cases;
      counters = c.in_default-strip_prefix-6.ensures.cases;
      version = search rules;
    })
