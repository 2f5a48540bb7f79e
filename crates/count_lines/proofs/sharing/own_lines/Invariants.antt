use Rattle.std.proofs.Common.{◌≡◌, take}
use Rattle.count_lines.specs.LinesOfCaller.{lines_by}
use Rattle.count_lines.proofs.sharing.own_lines.Given as goal

abbrev pub invariant-loop-line : goal.invariant-loop-line
invariant-loop-line l = l.own.items ≡ lines_by l.caller (take l.line-index l.lines)
