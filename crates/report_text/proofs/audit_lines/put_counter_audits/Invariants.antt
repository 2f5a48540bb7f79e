use Rattle.std.proofs.Common.{◌≡◌, ◌++◌, take}
use Rattle.report_text.specs.AuditLines.{counter_audits}
use Rattle.report_text.proofs.audit_lines.put_counter_audits.Given as goal

abbrev pub invariant-loop-i : goal.invariant-loop-i
invariant-loop-i l = l.text.items ≡ l.fn.text.items ++ counter_audits (take l.i l.counters)
