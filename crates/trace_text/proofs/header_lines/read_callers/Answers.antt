use Rattle.std.proofs.Common.{arith}
use Rattle.trace_text.proofs.HeaderLines.{callers_refused, callers_stands}
use Rattle.trace_text.proofs.header_lines.read_callers.Goals as goal

pub returns-then-progress-lt-SPACE : goal.returns-then-progress-lt-SPACE
returns-then-progress-lt-SPACE c = λ r held. callers_refused c.args.progress.now c.args.progress.now r c.args.field.now c.in-Some.callers held c.in-Some.ensures.some.0 c.in-Some.ensures.some.1 (λ after before low high. grind arith)

pub returns : goal.returns
returns c = λ r held. callers_stands c.args.progress.now r c.args.field.now c.in-Some.callers held c.in-Some.ensures.some.0 c.in-Some.ensures.some.1 (omega arith) (omega arith) (omega arith) (omega arith)
