use Rattle.trace_text.proofs.PickProofs.{IsPicked}
use Rattle.trace_text.proofs.picks.read_picks.Given as goal

abbrev pub invariant-loop-count : goal.invariant-loop-count
invariant-loop-count l = IsPicked l.callers l.text l.rest l.initial.picks.items l.picks.items l._count
