use Rattle.std.proofs.Common.{◌≡◌, ◌++◌, take, drop}
use Rattle.fault_reasons.specs.Quotes.{first_line}
use Rattle.fault_reasons.proofs.lines.first_line.Given as goal

abbrev pub invariant-loop-i : goal.invariant-loop-i
invariant-loop-i l = take l.i l.text ++ first_line (drop l.i l.text) ≡ first_line l.text
