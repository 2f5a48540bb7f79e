use Rattle.trace_rules.proofs.TracesRuled.{traces_keep_the_rules}
use Rattle.tests_live.proofs.driven.driven_text.Goals as goal

pub driven-requires : goal.driven-requires
driven-requires g c = (c.type_bounds.sync-G, (c.type_bounds.sync-R, let (reading, trace, tells) = c.in_ok-trace.ensures.trace in (reading, traces_keep_the_rules c.args.bytes.now reading trace (c.in_ok-trace.ensures.stands reading trace), tells)))
