use Rattle.std.proofs.Common.{◌≡◌, ◌++◌, take}
use Rattle.report_text.specs.TableLines.{counter_lines}
use Rattle.report_text.proofs.table_lines.put_counters.Given as goal

abbrev pub invariant-loop-i : goal.invariant-loop-i
invariant-loop-i l = l.text.items ≡ l.fn.text.items ++ counter_lines (take l.i l.counters)
