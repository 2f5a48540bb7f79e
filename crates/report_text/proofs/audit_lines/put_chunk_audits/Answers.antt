use Rattle.std.proofs.Common.{arith}
use Rattle.report_text.proofs.ChunkAudits.{audits_step, audits_end}
use Rattle.report_text.proofs.audit_lines.put_chunk_audits.Goals as goal

pub loop-i-preserved : goal.loop-i-preserved
loop-i-preserved c = audits_step c.loop-i.text.items c.put_chunk_audit.new.text.items c.put_rows.new.text.items _ c.args.chunks.now c.args.plains.now c.loop-i.rest.now c.split_at.result.0.now c.split_at.result.1.now c.loop-i.i c.own_hints.result _ _ (omega arith) (omega arith)
    c.in_ok-put_chunk_audit.ensures c.own_hints.ensures.value c.split_at.ensures.front c.split_at.ensures.back c.in_ok-put_rows.ensures c.loop-i.invariant

pub returns : goal.returns
returns c = audits_end c.loop-i.text.items _ c.args.chunks.now c.args.plains.now c.loop-i.rest.now c.loop-i.i (omega arith) c.loop-i.invariant
