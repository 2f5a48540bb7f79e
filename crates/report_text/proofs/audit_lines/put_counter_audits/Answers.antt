use Rattle.report_text.specs.AuditLines.{counter_audit}
use Rattle.report_text.proofs.JoinedTexts.{numbered_step}
use Rattle.report_text.proofs.audit_lines.put_counter_audits.Goals as goal

pub loop-i-preserved : goal.loop-i-preserved
loop-i-preserved c = numbered_step counter_audit c.args.counters.now c.loop-i.i c.index-counters-i.result c.args.text.now.items c.loop-i.text.items c.put_counter_audit.new.text.items c.loop-i-test.true c.index-counters-i.is c.loop-i.invariant c.in_ok-put_counter_audit.ensures
