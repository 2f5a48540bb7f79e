use Rattle.std.proofs.Common.{◌≡◌, ◌+◌, drop}
use Rattle.report_text.specs.AuditLines.{own_hints}
use Rattle.report_text.proofs.audit_lines.own_hints.Given as goal

abbrev pub invariant-loop-i : goal.invariant-loop-i
invariant-loop-i l = own_hints l.chunk l.hints ≡ l.i + own_hints l.chunk (drop l.i l.hints)
