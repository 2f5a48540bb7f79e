use Rattle.std.proofs.Common.{◌≡◌, ◌++◌, drop}
use Rattle.report_text.specs.AuditLines.{chunk_audits}
use Rattle.report_text.proofs.audit_lines.put_chunk_audits.Given as goal

-- what is written and what is left are the whole
abbrev pub invariant-loop-i : goal.invariant-loop-i
invariant-loop-i l = l.text.items ++ chunk_audits (drop l.i l.chunks) (drop l.i l.plains) l.rest ≡ l.fn.text.items ++ chunk_audits l.fn.chunks l.fn.plains l.fn.hints
