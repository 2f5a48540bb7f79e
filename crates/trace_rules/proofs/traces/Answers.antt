use Rattle.trace_rules.proofs.TracesRuled.{traces_keep_the_rules}
use Rattle.trace_rules.proofs.traces.Goals as goal

pub returns : goal.returns
returns c = record { rules = traces_keep_the_rules }
