use Rattle.std.proofs.Common.{arith}
use Rattle.trace_text.proofs.HeaderLines.{counters_refused, counters_stands}
use Rattle.trace_text.proofs.header_lines.read_counters.Goals as goal

pub returns-then-progress-lt-SPACE : goal.returns-then-progress-lt-SPACE
returns-then-progress-lt-SPACE c = λ r held. counters_refused c.args.progress.now c.args.progress.now r c.args.text.now c.in-Some.counters c.in-Some.batch held c.in-Some.ensures.some.0 c.in-Some.ensures.some.1 c.in-Some.ensures.some.2 (λ after before few low high. grind arith)

pub returns-then-counters-gt-MOST_COUNTERS : goal.returns-then-counters-gt-MOST_COUNTERS
returns-then-counters-gt-MOST_COUNTERS c = λ r held. counters_refused c.args.progress.now c.args.progress.now r c.args.text.now c.in-Some.counters c.in-Some.batch held c.in-Some.ensures.some.0 c.in-Some.ensures.some.1 c.in-Some.ensures.some.2 (λ after before few low high. grind arith)

pub returns : goal.returns
returns c = λ r held. counters_stands c.args.progress.now r c.args.text.now c.in-Some.counters c.in-Some.batch held c.in-Some.ensures.some.0 c.in-Some.ensures.some.1 c.in-Some.ensures.some.2 (omega arith) (omega arith) (omega arith) (omega arith) (omega arith)
