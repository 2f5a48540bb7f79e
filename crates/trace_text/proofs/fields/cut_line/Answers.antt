use Rattle.trace_text.proofs.LineEnds.{lacks_before, lacks_throughout, cut_at}
use Rattle.trace_text.proofs.fields.cut_line.Goals as goal

pub returns-in_default-clause-none : goal.returns-in_default-clause-none
returns-in_default-clause-none c = lacks_throughout 10 c.args.text.now c.in_default.ensures

pub returns-clause-some : goal.returns-clause-some
returns-clause-some c = (
  cut_at 10 c.args.text.now c.in-Some.end c.in-Some.ensures.0.high c.in-Some.ensures.1,
  lacks_before 10 c.args.text.now c.in-Some.end c.in-Some.ensures.0.before,
)
