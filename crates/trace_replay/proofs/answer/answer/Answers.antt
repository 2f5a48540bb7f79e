use Rattle.std.proofs.lemmas.Result.{IfOk-weaker}
use Rattle.trace_text.specs.Reading.{Reading}
use Rattle.trace_text.specs.ToldTraces.{Tells}
use Rattle.trace_replay.specs.declared.answer.Outcome.{Outcome}
use Rattle.trace_rules.specs.RuledTraces.{IsRuledTrace}
use Rattle.trace_rules.proofs.TracesRuled.{traces_keep_the_rules}
use Rattle.trace_replay.specs.Headline.{IsReport, Writes, Reports}
use Rattle.trace_replay.proofs.Reported.{done}
use Rattle.trace_replay.proofs.answer.answer.Goals as goal

pub report-requires : goal.report-requires
report-requires c = let (reading, trace, tells) = c.in-Ok.ensures.trace in (reading, traces_keep_the_rules c.args.bytes.now reading trace (c.in-Ok.ensures.stands reading trace), tells)

pub returns-in-Ok : goal.returns-in-Ok
returns-in-Ok c =
    let (reading, trace, tells) = c.in-Ok.ensures.trace in
    let stands = c.in-Ok.ensures.stands reading trace in
    let ruled = traces_keep_the_rules c.args.bytes.now reading trace stands in
    IfOk-weaker c.report.result (λ (o : Outcome). (r : Reading) → IsRuledTrace r → Tells c.in-Ok.trace r → Reports (IsReport c.args.mode) r o.status o.text) (λ (o : Outcome). Writes (IsReport c.args.mode) c.args.bytes.now o.status o.text)
    (λ o is. done (IsReport c.args.mode) c.args.bytes.now o reading c.requires trace stands (is reading ruled tells)) c.report.ensures
