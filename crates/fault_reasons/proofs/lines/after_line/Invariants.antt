use Rattle.std.proofs.Common.{◌≡◌, drop}
use Rattle.fault_reasons.specs.Quotes.{after_line}
use Rattle.fault_reasons.proofs.lines.after_line.Given as goal

abbrev pub invariant-loop-i : goal.invariant-loop-i
invariant-loop-i l = after_line (drop l.i l.text) ≡ after_line l.text
