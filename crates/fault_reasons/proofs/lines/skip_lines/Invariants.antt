use Rattle.std.proofs.Common.{◌≡◌, ◌-◌}
use Rattle.fault_reasons.specs.Quotes.{skip_lines}
use Rattle.fault_reasons.proofs.lines.skip_lines.Given as goal

abbrev pub invariant-loop-skipped : goal.invariant-loop-skipped
invariant-loop-skipped l = skip_lines (l.lines - l._skipped) l.rest ≡ skip_lines l.lines l.text
